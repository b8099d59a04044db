-- `prefixed::walks::put_atom` meets its contract.
-- Assumes nothing.
use mathlib.Core.Path.{sym, ◌∙◌}
use Rattle.prefixed.proofs.WalkLaws.{atom_done, atom_none}
use Rattle.prefixed.proofs.walks.put_atom.Goals as goal

pub returns-in-Some : goal.returns-in-Some
returns-in-Some c = atom_done _ _ _ _ (sym c.atom_ahead.ensures ∙ c.in-Some.is) c.put_record.ensures

pub returns-in-None : goal.returns-in-None
returns-in-None c = atom_none _ _ _ c.requires.0 _ (sym c.atom_ahead.ensures ∙ c.in-None.is)

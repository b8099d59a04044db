-- The sheet of a class within the limits is a byte string that is accepted and stands for the class.
-- Assumes nothing.
use Prim.Native.Nat.{ℕ, ◌+◌, ◌*◌, ◌<◌, ◌≤◌}
use native.Mathlib.Omega.{arith}
use mathlib.Core.Path.{◌≡◌, refl, sym, ◌∙◌, ap, subst}
use mathlib.Core.List.{List, [], ◌∷◌, ◌++◌}
use lib.ListN.{length, length-append, length-map}
use Rattle.model.specs.Words.{Bytes}
use Rattle.model.specs.Tree.{Class}
use Rattle.sheet.specs.Contents.{bodies}
use Rattle.sheet.specs.Rules.{Accepted}
use Rattle.sheet.specs.Reading.{class_in, class_of}
use Rattle.sheet.proofs.Rules.{BodiesRight, right_accepted}
use Rattle.records.specs.Bytes.{in_fours}
use Rattle.encoding.specs.Records.{number, fours, eights}
use Rattle.encoding.specs.Encoding.{class_records, state_records, state_bytes, when_records, all_guards, action_records, statement_records, gathered, contents, sheet_of}
use Rattle.encoding.specs.Numbers.{PartNumbers, Numbers}
use Rattle.encoding.specs.Within.{Within}
use Rattle.encoding.specs.Encoded.{Encoded, Laid}
use Rattle.encoding.proofs.Computing.{computing}
use Rattle.encoding.proofs.Examples.{some_class}
use Rattle.encoding.proofs.StateRecord.{length_states}
use Rattle.encoding.proofs.Order.{guards_written}
use Rattle.encoding.proofs.RecordCounts.{when_number, action_number}
use Rattle.encoding.proofs.Limits.{within, within_only}
use Rattle.encoding.proofs.From.{length_fours, length_eights, count_fours}
use Rattle.encoding.proofs.ReadBodies.{six, K_is, S_is, few, inside, class_back, keeps}
use Rattle.encoding.proofs.ReadContents.{Counts, bodies_back, long, short, right1, right2}
use Rattle.encoding.proofs.All.{every_append}
use Rattle.encoding.proofs.Small.{Small, every_fours, every_eights, every_bytes}
use Rattle.encoding.proofs.Layouts.{states_fit}
use Rattle.encoding.proofs.SheetBytes.{every_sets, every_fits, states_small, laid_small}

module _ (c : Class) where
  bodies_are : bodies (sheet_of c) ≡ six c
  unfolding sheet_of six
  bodies_are =
      bodies_back (fours (class_records c)) (state_bytes (state_records c.states 0 0)) (fours (when_records c)) (eights (all_guards c))
      (fours (action_records c)) (eights (statement_records c))

  -- the length of the sheet, in records
  pub sheet_length : length (sheet_of c)
      ≡ 24 + length (class_records c) * 4 + length (state_records c.states 0 0) * 4 + length (when_records c) * 4 + length (all_guards c) * 8
      + length (action_records c) * 4 + length (statement_records c) * 8
  unfolding sheet_of
  sheet_length =
      let e = long (fours (class_records c)) (state_bytes (state_records c.states 0 0)) (fours (when_records c)) (eights (all_guards c))
      (fours (action_records c)) (eights (statement_records c)) in
      omega (
        arith,
        length_fours (class_records c),
        length_fours (state_records c.states 0 0),
        length_fours (when_records c),
        length_eights (all_guards c),
        length_fours (action_records c),
        length_eights (statement_records c),
      )

  module _ (w : Within c) where
    counted : Counts (fours (class_records c)) (state_bytes (state_records c.states 0 0)) (fours (when_records c)) (eights (all_guards c))
        (fours (action_records c)) (eights (statement_records c))
    counted =
        record {
          K = length (class_records c);
          S = length (state_records c.states 0 0);
          W = length (when_records c);
          G = length (all_guards c);
          A = length (action_records c);
          T = length (statement_records c);
          k_is = length_fours (class_records c);
          s_is = length_fours (state_records c.states 0 0);
          w_is = length_fours (when_records c);
          g_is = length_eights (all_guards c);
          a_is = length_fours (action_records c);
          t_is = length_eights (statement_records c);
          k_most = (let e = w.classes in omega (arith, K_is c w, count_fours (class_records c)));
          s_least = (let e = w.some_state in omega (arith, S_is c w, count_fours (state_records c.states 0 0)));
          s_most = (let e = w.states in omega (arith, S_is c w, count_fours (state_records c.states 0 0)));
          w_most = w.whens;
          g_most = w.guards;
          a_most = w.actions;
          t_most = w.statements;
        }

    -- the judge accepts it
    pub sheet_accepted : Accepted (sheet_of c)
    unfolding sheet_of
    sheet_accepted =
        right_accepted (sheet_of c)
        (record {
          length = right1 _ _ _ _ _ _ counted;
          contents = right2 _ _ _ _ _ _ counted;
          bodies = subst BodiesRight (sym bodies_are) (keeps c w);
        })

    -- it stands for the class
    pub sheet_stands : class_of (sheet_of c) ≡ c
    unfolding class_of
    sheet_stands = ap class_in bodies_are ∙ class_back c w

    -- its numbers are bytes
    pub sheet_bytes : Bytes (sheet_of c)
    unfolding sheet_of gathered contents fours
    sheet_bytes =
        let K = in_fours (fours (class_records c)) in
        let S = in_fours (state_bytes (state_records c.states 0 0)) in
        let b0 = fours (class_records c) in
        let b1 = state_bytes (state_records c.states 0 0) in
        let b2 = fours (when_records c) in
        let b3 = eights (all_guards c) in
        let b4 = fours (action_records c) in
        let b5 = eights (statement_records c) in
        let bs : List (List ℕ) = b0 ∷ b1 ∷ b2 ∷ b3 ∷ b4 ∷ b5 ∷ [] in
        let most : S ≤ 32 = (let e = w.states in omega (arith, S_is c w)) in
        let g = w.guards in
        let r = states_small K S (few c w) most c.states 0 0 0 (omega arith) w.whens w.actions w.statements (inside c w) in
        let e = length-append (fours (contents 24 bs)) (gathered (λ b. b) bs) in
        let l : 24 + length (gathered (λ b. b) bs) < 65536 = omega (arith, short b0 b1 b2 b3 b4 b5 counted) in
        every_bytes (sheet_of c)
        (laid_small bs l
        (every_append Small b0 (b1 ++ (b2 ++ (b3 ++ (b4 ++ (b5 ++ []))))) (every_fours (class_records c) (every_sets c.children w.numbers.sets))
        (every_append Small b1 (b2 ++ (b3 ++ (b4 ++ (b5 ++ [])))) (every_fours (state_records c.states 0 0) r.states)
        (every_append Small b2 (b3 ++ (b4 ++ (b5 ++ []))) (every_fours (when_records c) r.whens)
        (every_append Small b3 (b4 ++ (b5 ++ [])) (every_eights (all_guards c) (every_fits K (few c w) (all_guards c) (states_fit K (few c w) S c.states (inside c w))))
        (every_append Small b4 (b5 ++ []) (every_fours (action_records c) r.actions)
        (every_append Small b5 [] (every_eights (statement_records c) r.statements) tt)))))))

-- classes within the limits that have one sheet are one class
pub same_sheet : (c d : Class) → Within c → Within d → sheet_of c ≡ sheet_of d → c ≡ d
same_sheet c d v w e = sym (sheet_stands c v) ∙ ap class_of e ∙ sheet_stands d w

pub encoded : (c : Class) → Within c → Encoded c
encoded c w = record { accepted = sheet_accepted c w; stands = sheet_stands c w; bytes = sheet_bytes c w; alone = λ d v e. same_sheet c d w v e }

pub laid : (c : Class) → Laid c
laid c =
    record {
      long = rw (← length-map c.children number, ← length_states c.states 0 0) (sheet_length c);
      whens = when_number c;
      actions = action_number c;
      in_order = guards_written c;
      within = within c;
      within_only = within_only c;
    }

-- there are such classes
some_numbers : Numbers some_class
unfolding some_class PartNumbers
some_numbers =
    record {
      sets = ((omega arith), ((omega arith), tt));
      states = (
        record {
          whens = (
            (((tt, (omega arith), (omega arith)), ((omega arith), (omega arith), (omega arith))), (omega arith)),
            ((((tt, (omega arith), (omega arith)), ((omega arith), (omega arith), (omega arith))), tt), tt),
          );
          actions = (
            (
              (omega arith),
              (
                (
                  ((omega arith), (omega arith), (omega arith)),
                  (((tt, (omega arith), (omega arith)), (((omega arith), tt), tt), ((omega arith), tt)), tt),
                  (((omega arith), (omega arith)), tt),
                ),
                ((omega arith), tt),
              ),
            ),
            tt,
          );
          none_twice = λ i j l m e. omega arith;
        },
        (record { whens = ((((omega arith), (omega arith), (omega arith)), (omega arith)), tt); actions = tt; none_twice = λ i j l m e. omega arith }, tt),
      );
    }

pub some_within : Within some_class
unfolding computing some_class
some_within = within some_class refl some_numbers

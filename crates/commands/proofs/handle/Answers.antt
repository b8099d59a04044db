-- `handle`: the command is run on no buffer, to count; the phase is asked on the buffer behind its bytes; then the command is run on the front.
-- Assumes nothing.
-- the run that counts leaves the buffer as it was
use mathlib.Core.Path.{refl, ap}
use Rattle.std.proofs.lemmas.Result.{err_from_is_err_and}
use Rattle.running.proofs.SendLaws.{none_before}
use Rattle.commands.proofs.HandleLaws.{left_inside}
use Rattle.commands.proofs.BehindLaws.{short_told, refused_told, given_told}
use Rattle.commands.proofs.handle.Goals as goal

pub returns-then-out-own : goal.returns-then-out-own
returns-then-out-own c = short_told _ _ _ _ _ _ _ c.run_command-counted.ensures _ _ (none_before c.run_command-counted.new.out _ c.run_command-counted.auto.out) _ c.own_bytes-own.ensures c.if-out-own.true

pub when_phase-requires : goal.when_phase-requires
when_phase-requires c = left_inside c.args.sheet.bytes.now _ _ _ c.requires _ _ _ c.run_command-counted.ensures _ c.left_by.ensures

pub returns-in_err-phase : goal.returns-in_err-phase
returns-in_err-phase c =
    let p = err_from_is_err_and c.from_residual.result c.from_residual.ensures.1 in
    rw (p.1, p.2) (refused_told _ _ _ _ _ _ _ c.run_command-counted.ensures _ _ (none_before c.run_command-counted.new.out _ c.run_command-counted.auto.out) _ c.own_bytes-own.ensures _ (ap (λ q. q.0) c.left_by.ensures) c.if-out-own.false _ _ refl _ c.when_phase.ensures _ c.in_err-phase.was)

pub returns : goal.returns
returns c = given_told _ _ _ _ _ _ _ c.run_command-counted.ensures _ _ (none_before c.run_command-counted.new.out _ c.run_command-counted.auto.out) _ c.own_bytes-own.ensures _ (ap (λ q. q.0) c.left_by.ensures) c.if-out-own.false _ _ refl _ c.when_phase.ensures _ c.in_ok-phase.was _ _ _ refl c.run_command-handling.ensures

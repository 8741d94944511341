-- No call of a service makes a turn.
use Rattle.std.proofs.Common.{◌≡◌, ℕ, Bool, true, false, not, ◌||◌, ◌==◌, nat_lt, if◌then◌else◌, refl, sym, ◌∙◌, ap, subst}
use Rattle.std.specs.declared.option.Option.{Option}
use Rattle.std.specs.declared.option.Option.TheVariants.{None, Some}
use Rattle.abi_calls.specs.declared.call.Call.{Call}
use Rattle.abi_calls.specs.declared.reply.Reply.{Reply}
use Rattle.abi_calls.specs.declared.reply.Reply.TheVariants.{Done, Busy, TooBig}
use Rattle.turn_sched.specs.declared.settings.Settings.{Settings}
use Rattle.abi_calls.specs.Objects.{Objects, number_of}
use Rattle.abi_calls.specs.World.{Told, Answer}
use Rattle.abi_calls.specs.Abi.{Answers}
use Rattle.abi_calls.specs.Processes.{configure_row, is_acceptable, is_running}
use Rattle.abi_calls.proofs.PositionsKept.{is_configure}
use Rattle.abi_calls.proofs.PositionsKept.{KeepsPositions-Answers}
use Rattle.libos_state.specs.declared.cont.Cont.{Cont}
use Rattle.libos_state.specs.declared.cont.Stage.{Stage}
use Rattle.libos_state.specs.declared.cont.Stage.TheVariants.{Configure}
use Rattle.libos_state.specs.declared.state.LibOs.{LibOs}
use Rattle.libos_state.specs.Pending.{pending, asked, asked_by, no_positions}
use Rattle.libos_state.specs.Fits.{Fits, FitsCont, FitsStage}

abbrev turns_in : Reply × Objects → ℕ
turns_in a = (a.1).positions.turns

either : (b : Bool) (x y : Reply × Objects) (n : ℕ) → turns_in x ≡ n → turns_in y ≡ n → turns_in (if b then x else y) ≡ n
either true x y n p q = p
either false x y n p q = q

turns_configured : (o : Objects) (s : Settings) → o.positions.turns ≡ 0 → turns_in (configure_row o s no_positions) ≡ o.positions.turns
turns_configured o s none =
    let changed : Objects = record o { settings = s; positions = no_positions } in
    let taken : Reply × Objects = if not (o.positions.turns == 0) || nat_lt 0 (number_of is_running o.live) then (Busy, o) else (Done, changed) in
    either (not (is_acceptable s)) (TooBig, o) taken o.positions.turns refl
    (either (not (o.positions.turns == 0) || nat_lt 0 (number_of is_running o.live)) (Busy, o) (Done, changed) o.positions.turns refl (sym none))

turns_kept : (o o' : Objects) (t t' : Told) (call : Call) (r : Reply) → is_configure call ≡ false → Answers o t call r o' t' → o'.positions.turns ≡ o.positions.turns
turns_kept o o' t t' call r not a = ap (λ p. p.turns) (KeepsPositions-Answers o o' t t' call r not a).positions

turns_at : (os : LibOs) (c : Cont) (stage : Stage) (o o' : Objects) (t t' : Told) (r : Reply) → FitsStage os o c stage → Answers o t (asked os c stage) r o' t' → o'.positions.turns ≡ o.positions.turns
turns_at os c Configure o o' t t' r fits a =
    sym (ap (λ (x : Answer). x.1.objects.positions.turns) a.abi.row) ∙ turns_configured o os.settings fits.made
turns_at os c _ o o' t t' r fits a = turns_kept o o' t t' _ r refl a

turns_in_cont : (os : LibOs) (cont : Option Cont) (o o' : Objects) (t t' : Told) (call : Call) (r : Reply) → asked_by os cont ≡ Some call → FitsCont os o cont → Answers o t call r o' t' → o'.positions.turns ≡ o.positions.turns
turns_in_cont os None o o' t t' call r asks fits a = absurd (cc)
turns_in_cont os (Some c) o o' t t' call r asks fits a =
    let same : call ≡ asked os c c.stage = cc in
    turns_at os c c.stage o o' t t' r fits (subst (λ x. Answers o t x r o' t') same a)

-- the answer to the pending call leaves the turns
pub answer_turns : (os : LibOs) (o o' : Objects) (t t' : Told) (call : Call) (r : Reply) → pending os ≡ Some call → Fits os o → Answers o t call r o' t' → o'.positions.turns ≡ o.positions.turns
answer_turns os o o' t t' call r asks fits a = turns_in_cont os os.cont o o' t t' call r asks fits a

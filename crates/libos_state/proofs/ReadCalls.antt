-- A read by its trap, and what it does in the machine.
use Rattle.std.specs.Prelude.{◌≡◌, ◌≢◌, ℕ, ◌==◌, true, false, not, ◌&&◌, [], bit_and}
use Rattle.std.specs.declared.option.Option.{Option}
use Rattle.std.specs.declared.option.Option.TheVariants.{None, Some}
use Rattle.std.proofs.Common.{refl, sym, ap, ◌∙◌, eqb-true}
use Rattle.std.proofs.lemmas.Bool.{cond-true, cond-false, and_parts, not-true}
use Rattle.abi_calls.specs.declared.threads.Upcall.{Upcall}
use Rattle.abi_calls.specs.Objects.{Objects}
use Rattle.mono_model.specs.Machine as mono
use Rattle.mono_model.specs.Machine.{Mono, register}
use Rattle.mono_model.specs.Calls.{Caller, Trap, silently, moved, description_of, is_exit}
use Rattle.mono_model.specs.FileCalls.{READ, readable, read_of, read_from}
use Rattle.mono_model.specs.SystemCalls.{system_call, served}
use Rattle.libos_state.specs.declared.cont.Stage.{Stage}
use Rattle.libos_state.specs.declared.notes.Description.{Description}
use Rattle.libos_state.specs.declared.notes.Kind.{Kind}
use Rattle.libos_state.specs.declared.notes.Kind.TheVariants.{ConOut, ConErr}
use Rattle.libos_state.specs.declared.state.LibOs.{LibOs}
use Rattle.libos_state.specs.Records.{description_behind}
use Rattle.libos_state.specs.Fits.{FitsRecords, FitsObjects, FitsTrap, is_fit_access, is_call, is_recorded, is_readable, reads, returns}
use Rattle.libos_state.proofs.Naming.{Trapped, trapped}
use Rattle.libos_state.proofs.Serving.{returns-call}

-- ---- in the machine

-- What a read does, where its descriptor is open for reading and it asks for some bytes.
pub served_read : (m : Mono) (who : Caller) (trap : Trap) (d : mono.Description) → (trap.0 == 8) ≡ true → (register who.context 17 == READ) ≡ true →
    description_of m who.process (register who.context 10) ≡ Some d → (bit_and d.access 1 == 1) ≡ true → (register who.context 12 == 0) ≡ false →
    served m who trap ≡ silently (read_from m who d (moved (register who.context 12)))
served_read m who trap d call number there allowed some =
    cond-true (trap.0 == 8) _ _ call
    ∙ ap (system_call m who) (eqb-true (register who.context 17) READ number)
    ∙ ap (λ x. silently (read_of m who (readable x))) there
    ∙ ap (λ x. silently (read_of m who x)) (cond-true (bit_and d.access 1 == 1) (Some d) None allowed)
    ∙ ap silently (cond-false (register who.context 12 == 0) _ _ some)

-- ---- by its trap

-- The trap of a read of some bytes from a descriptor that is open for reading.
pub record Reads (os : LibOs) (u : Upcall) : Type 0 where
  pub call : (u.cause == 8) ≡ true
  pub number : (register u.context 17 == READ) ≡ true
  pub some : (register u.context 12 == 0) ≡ false
  pub description : Description
  pub behind : description_behind os u.process (register u.context 10) ≡ Some description
  pub readable : (bit_and description.access 1 == 1) ≡ true

record ReadableOf (x : Option Description) : Type 0 where
  description : Description
  is : x ≡ Some description
  readable : (bit_and description.access 1 == 1) ≡ true

readable_of : (x : Option Description) → is_readable x ≡ true → ReadableOf x
readable_of None is = absurd (cc)
readable_of (Some d) is = record { description = d; is = refl; readable = is }

pub reads_of : (os : LibOs) (u : Upcall) → reads os u ≡ true → Reads os u
reads_of os u is =
    let parts = and_parts (is_call u READ) (not (register u.context 12 == 0) && is_readable (description_behind os u.process (register u.context 10))) is in
    let call = and_parts (u.cause == 8) (register u.context 17 == READ) parts.0 in
    let rest = and_parts (not (register u.context 12 == 0)) (is_readable (description_behind os u.process (register u.context 10))) parts.1 in
    let target = readable_of (description_behind os u.process (register u.context 10)) rest.1 in
    record {
      call = call.0;
      number = call.1;
      some = not-true (register u.context 12 == 0) rest.0;
      description = target.description;
      behind = target.is;
      readable = target.readable;
    }

-- The trap of a read's stage.
pub record ReadTrap (os : LibOs) (o : Objects) (u : Upcall) (stage : Stage) : Type 0 where
  pub trap : FitsTrap os o u stage
  pub home : Trapped os o u
  pub reads : Reads os u
  pub returns : returns os u ≡ true

pub read_trap : (os : LibOs) (o : Objects) (u : Upcall) (stage : Stage) → FitsRecords os → FitsObjects os o [] None → FitsTrap os o u stage
    → (reads os u && is_recorded os u) ≡ true → ReadTrap os o u stage
read_trap os o u stage records objects trap comes =
    let parts = and_parts (reads os u) (is_recorded os u) comes in
    let read = reads_of os u parts.0 in
    record {
      trap = trap;
      home = trapped os o u [] None records objects trap.home parts.1;
      reads = read;
      returns = returns-call os u read.call (ap is_exit (eqb-true (register u.context 17) READ read.number)) parts.1;
    }

-- What is written to at the console isn't open for reading.
not_read : (access : ℕ) → (access == 2) ≡ true → (bit_and access 1 == 1) ≡ true → ⊥
not_read access two reads = let e : false ≡ true = sym (ap (λ n. bit_and n 1 == 1) (eqb-true access 2 two)) ∙ reads in cc

pub no_output : (k : Kind) (access : ℕ) → is_fit_access k access ≡ true → (bit_and access 1 == 1) ≡ true → k ≢ ConOut
no_output k access fits read is = not_read access (ap (λ j. is_fit_access j access) (sym is) ∙ fits) read

pub no_errors : (k : Kind) (access : ℕ) → is_fit_access k access ≡ true → (bit_and access 1 == 1) ≡ true → k ≢ ConErr
no_errors k access fits read is = not_read access (ap (λ j. is_fit_access j access) (sym is) ∙ fits) read

-- Calls on an open file by their traps, and what they do in the machine.
use Rattle.std.specs.Prelude.{◌≡◌, ℕ, ◌^◌, ◌==◌, true, false, not, ◌||◌, nat_lt, bit_and}
use Rattle.std.specs.declared.option.Option.{Option}
use Rattle.std.specs.declared.option.Option.TheVariants.{None, Some}
use Rattle.std.proofs.Common.{refl, ap, ◌∙◌, eqb-true}
use Rattle.std.proofs.lemmas.Bool.{cond-true, cond-false}
use Rattle.mono_model.specs.Machine as mono
use Rattle.mono_model.specs.Machine.{Mono, register}
use Rattle.mono_model.specs.Calls.{Caller, Trap, silently, description_of}
use Rattle.mono_model.specs.FileCalls as machine
use Rattle.mono_model.specs.FileCalls.{LSEEK, FSTAT, FTRUNCATE, lseek_of, seek_from, seek_base, fstat_of, stored, stream_status, ftruncate_of, cut_stream}
use Rattle.mono_model.specs.SystemCalls.{system_call, served}
use Rattle.libos_state.specs.declared.notes.Description.{Description}
use Rattle.libos_state.specs.declared.notes.Kind.{Kind}
use Rattle.libos_state.specs.declared.notes.Kind.TheVariants.{ConIn, ConOut, ConErr, File}
use Rattle.libos_state.specs.Records.{is_file}
use Rattle.libos_state.specs.Fits.{is_open_file}

-- ---- in the machine

-- A system call by its number.
served_call : (m : Mono) (who : Caller) (trap : Trap) (n : ℕ) → (trap.0 == 8) ≡ true → (register who.context 17 == n) ≡ true → served m who trap ≡ system_call m who n
served_call m who trap n call number = cond-true (trap.0 == 8) _ _ call ∙ ap (system_call m who) (eqb-true (register who.context 17) n number)

module _ (m : Mono) (who : Caller) (trap : Trap) (d : mono.Description) (call : (trap.0 == 8) ≡ true) (there : description_of m who.process (register who.context 10) ≡ Some d) where
  -- a position is sought from a base
  pub served_seek : (register who.context 17 == LSEEK) ≡ true → machine.is_file d.stream ≡ true → nat_lt 2 (register who.context 12) ≡ false → served m who trap ≡ silently (seek_from m who (seek_base m d (register who.context 12)))
  served_seek number file whence = served_call m who trap LSEEK call number
      ∙ ap (λ x. silently (lseek_of m who x)) there
      ∙ ap silently (cond-false (not (machine.is_file d.stream)) _ _ (ap not file))
      ∙ ap silently (cond-false (nat_lt 2 (register who.context 12)) _ _ whence)

  -- a status is stored
  pub served_status : (register who.context 17 == FSTAT) ≡ true → served m who trap ≡ silently (stored m who (register who.context 11) (stream_status m d.stream) 0)
  served_status number = served_call m who trap FSTAT call number ∙ ap (λ x. silently (fstat_of m who x)) there

  -- a file gets a length
  pub served_cut : (register who.context 17 == FTRUNCATE) ≡ true → (bit_and d.access 2 == 2) ≡ true → nat_lt (register who.context 11) (2 ^ 63) ≡ true → served m who trap ≡ silently (cut_stream m who (register who.context 11) d.stream)
  served_cut number written within = served_call m who trap FTRUNCATE call number
      ∙ ap (λ x. silently (ftruncate_of m who x)) there
      ∙ ap silently (cond-false (not (bit_and d.access 2 == 2) || not (nat_lt (register who.context 11) (2 ^ 63))) _ _ (λ i. not (written i) || not (within i)))

-- ---- by what a descriptor names

pub record FileOf (x : Option Description) : Type 0 where
  pub description : Description
  pub is : x ≡ Some description
  pub file : description.kind ≡ File

file_kind : (k : Kind) → is_file k ≡ true → k ≡ File
file_kind ConIn is = absurd (cc)
file_kind ConOut is = absurd (cc)
file_kind ConErr is = absurd (cc)
file_kind File is = refl

pub file_of : (x : Option Description) → is_open_file x ≡ true → FileOf x
file_of None is = absurd (cc)
file_of (Some d) is = record { description = d; is = refl; file = file_kind d.kind is }

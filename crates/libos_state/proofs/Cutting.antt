-- The stage at which a file gets another length.
use Rattle.std.specs.Prelude.{◌≡◌, ℕ, ◌^◌, ◌==◌, Bool, true, false, if◌then◌else◌, ◌&&◌, nat_lt, List, []}
use Rattle.std.specs.declared.option.Option.{Option}
use Rattle.std.specs.declared.option.Option.TheVariants.{None, Some}
use Rattle.std.proofs.Common.{refl, sym, ap, subst, ◌∙◌, inr, append-nil, eqb-true}
use Rattle.std.proofs.lemmas.Bool.{and_parts, cond-true, cond-false}
use Rattle.bas_edge.specs.Files.{Files, with_length}
use Rattle.bas_names.specs.declared.StreamName.TheVariants as stream
use Rattle.abi_calls.specs.declared.object.Object.TheVariants.{Stream}
use Rattle.abi_calls.specs.declared.reply.Reply.{Reply}
use Rattle.abi_calls.specs.declared.reply.Reply.TheVariants.{Done, TooBig}
use Rattle.abi_calls.specs.declared.threads.Upcall.{Upcall}
use Rattle.abi_calls.specs.Objects.{object_at}
use Rattle.abi_calls.specs.World.{on_files}
use Rattle.abi_calls.specs.Streams.{stream_set_length_row}
use Rattle.abi_calls.specs.Sound.{IsSound}
use Rattle.mono_model.specs.Machine as mono
use Rattle.mono_model.specs.Machine.{Mono, register}
use Rattle.mono_model.specs.Written.{nothing}
use Rattle.mono_model.specs.Calls.{Caller, EFBIG, LONGEST_FILE, error, silently, finished, is_exit}
use Rattle.mono_model.specs.FileCalls as machine
use Rattle.mono_model.specs.FileCalls.{FTRUNCATE, cut_file, cut_stream}
use Rattle.libos_state.specs.declared.cont.Cont.{Cont}
use Rattle.libos_state.specs.declared.cont.Stage.TheVariants.{SetContext, SetFileLength}
use Rattle.libos_state.specs.declared.notes.Description.{Description}
use Rattle.libos_state.specs.declared.state.LibOs.{LibOs}
use Rattle.libos_state.specs.Records.{View, Visible, visible, base, file_seen, stream_seen, description_behind, description_seen}
use Rattle.libos_state.specs.Pending.{asked, upcall_in, argument, handle_of}
use Rattle.libos_state.specs.Answered.{goes_on, service_with_result}
use Rattle.libos_state.specs.Meaning.{Meaning, caller_in, trap_in, leads_to, meaning, meant_at}
use Rattle.libos_state.specs.Laws.{files_in}
use Rattle.libos_state.specs.Fits.{FitsObjects, FitsStage, FitsTrap, is_call, is_recorded, is_open_file, is_writable, resizes, returns}
use Rattle.libos_state.proofs.Holds.{Holds, Keeps-silent}
use Rattle.libos_state.proofs.Rows.{holds_by}
use Rattle.libos_state.proofs.Naming.{Trapped, trapped}
use Rattle.libos_state.proofs.Serving.{returns-call, trap_of, on_trap, named_as-no_kinds, FitsTrap-with_service, result_fits}
use Rattle.libos_state.proofs.OpenStreams.{seen_there, stream_there}
use Rattle.libos_state.proofs.FileCalls.{FileOf, file_of, served_cut}
use Rattle.libos_state.proofs.Views.{world, on_world, Answer, AnswersAs, answer, on_contents}

module _ (os : LibOs) (c : Cont) (w : View) (fits : FitsStage os w.objects c SetFileLength) where
  abbrev u : Upcall
  u = upcall_in c.event

  abbrev v : Visible
  v = visible w

  abbrev m : Mono
  m = base os v

  abbrev who : Caller
  who = caller_in os c

  abbrev size : ℕ
  size = argument c 1

  abbrev behind : Option Description
  behind = description_behind os u.process (register u.context 10)

  named_none : FitsObjects os w.objects [] None
  named_none = subst (λ kept. FitsObjects os w.objects kept None) (named_as-no_kinds c.handles) fits.objects

  trap : FitsTrap os w.objects u SetFileLength
  trap = trap_of os w.objects c.event SetFileLength refl fits.event

  parts : (resizes os u ≡ true) × (is_recorded os u ≡ true)
  parts = and_parts (resizes os u) (is_recorded os u) trap.comes

  asks : (is_call u FTRUNCATE ≡ true) × ((is_open_file behind && (is_writable behind && nat_lt size (2 ^ 63))) ≡ true)
  asks = and_parts (is_call u FTRUNCATE) (is_open_file behind && (is_writable behind && nat_lt size (2 ^ 63))) parts.0

  call : ((u.cause == 8) ≡ true) × ((register u.context 17 == FTRUNCATE) ≡ true)
  call = and_parts (u.cause == 8) (register u.context 17 == FTRUNCATE) asks.0

  opens : (is_open_file behind ≡ true) × ((is_writable behind && nat_lt size (2 ^ 63)) ≡ true)
  opens = and_parts (is_open_file behind) (is_writable behind && nat_lt size (2 ^ 63)) asks.1

  within : (is_writable behind ≡ true) × (nat_lt size (2 ^ 63) ≡ true)
  within = and_parts (is_writable behind) (nat_lt size (2 ^ 63)) opens.1

  file : FileOf behind
  file = file_of behind opens.0

  abbrev d : Description
  d = file.description

  abbrev seen : mono.Description
  seen = description_seen v.objects.live d

  home : Trapped os w.objects u
  home = trapped os w.objects u [] None fits.records named_none trap.home parts.1

  there : machine.described m who ≡ Some seen
  there = seen_there os v u [] None fits.records named_none home d file.is

  abbrev name : List ℕ
  name = file_seen (object_at w.objects d.handle)

  stream_is : seen.stream ≡ stream.File name
  stream_is = ap (λ k. stream_seen k (object_at w.objects d.handle)) file.file

  abbrev new_files : Files
  new_files = with_length name size w.contents.files

  abbrev cut : View
  cut = record w { contents = record w.contents { files = new_files } }

  abbrev answered : Bool → Answer
  answered long = on_contents w (on_files w.contents (if long then (TooBig, w.contents.files) else (Done, new_files)))

  row : (r : Reply) → answer w (asked os c SetFileLength) r ≡ answered (nat_lt LONGEST_FILE size)
  row r = ap (λ x. on_world w (stream_set_length_row (world w) size x))
      (ap (λ x. object_at w.objects (handle_of x)) file.is ∙ stream_there os v u [] None fits.records named_none home d file.is ∙ ap (λ s. Some (Stream s)) stream_is)

  abbrev result : ℕ → Cont
  result n = service_with_result c n

  goes_behind : returns os u ≡ true
  goes_behind = returns-call os u call.0 (ap is_exit (eqb-true (register u.context 17) FTRUNCATE call.1)) parts.1

  result_next : (n : ℕ) → FitsStage (goes_on os (result n)) w.objects (result n) SetContext
  result_next n = result_fits os w.objects c n fits.records named_none
      (on_trap os (goes_on os (result n)) w.objects w.objects c.event SetFileLength SetContext refl fits.event
      (FitsTrap-with_service os (Some (result n)) w.objects u SetFileLength SetContext trap goes_behind))

  meant : meant_at os v c SetFileLength ≡ leads_to (silently (cut_file m who name size))
  meant = ap leads_to (served_cut m who (trap_in c) seen call.0 there call.1 (ap is_writable (sym file.is) ∙ within.0) within.1
      ∙ ap (λ s. silently (cut_stream m who size s)) stream_is)

  abbrev lengthened : Mono
  lengthened = finished (record m { files = new_files }) who 0

  holds : (long : Bool) → nat_lt LONGEST_FILE size ≡ long → Holds os c SetFileLength w (answered long).0 (answered long).1
  holds true long = record {
    fits = result_next (error EFBIG);
    keeps = Keeps-silent w w (meant_at os v c SetFileLength) (meaning (goes_on os (result (error EFBIG))) v) refl
        (sym (meant ∙ ap (λ (x : Mono). leads_to (silently x)) (cond-true (nat_lt LONGEST_FILE size) (finished m who (error EFBIG)) lengthened long)));
  }
  holds false long =
      let means : meant_at os v c SetFileLength ≡ leads_to (silently lengthened) =
      meant ∙ ap (λ (x : Mono). leads_to (silently x)) (cond-false (nat_lt LONGEST_FILE size) (finished m who (error EFBIG)) lengthened long) in
      record {
        fits = result_next 0;
        keeps = record {
          written = nothing;
          output = sym (append-nil w.contents.output);
          errors = sym (append-nil w.contents.errors);
          input = record { taken = []; is = refl };
          files = inr (sym (ap (λ (x : Meaning). files_in x.0 w.contents.files) means));
          same = means;
        };
      }

pub keeps_set_file_length : (os : LibOs) (c : Cont) (w w' : View) (r : Reply) → FitsStage os w.objects c SetFileLength → IsSound w.objects → AnswersAs w (asked os c SetFileLength) r w' → Holds os c SetFileLength w r w'
keeps_set_file_length os c w w' r fits sound abi =
    holds_by os c SetFileLength w w' r (answered os c w fits (nat_lt LONGEST_FILE (size os c w fits))) abi (row os c w fits r)
    (holds os c w fits (nat_lt LONGEST_FILE (size os c w fits)) refl)

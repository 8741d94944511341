-- The stage of a read at which its bytes come from the stream: they go to the caller's memory next, or there are none.
use Rattle.std.specs.Prelude.{◌≡◌, ℕ, ◌≤◌, ◌==◌, Bool, true, false, cond, ◌&&◌, nat_lt, List, [], length, take, drop, is_some}
use Rattle.std.specs.declared.option.Option.{Option}
use Rattle.std.specs.declared.option.Option.TheVariants.{None, Some}
use Rattle.std.proofs.Common.{refl, sym, ap, subst, ◌∙◌, arith, inl, append-nil, eqb-true, length-take, take-append-drop}
use Rattle.std.proofs.lemmas.Bool.{cond-false, le-ltb, and_parts, and_from, or_left}
use Rattle.bas_names.specs.declared.StreamName.{StreamName}
use Rattle.abi_calls.specs.declared.object.Object.TheVariants.{Stream}
use Rattle.abi_calls.specs.declared.reply.Reply.{Reply}
use Rattle.abi_calls.specs.declared.reply.Reply.TheVariants.{TooBig}
use Rattle.abi_calls.specs.Objects.{Object, object_at}
use Rattle.abi_calls.specs.Streams.{stream_read_row, read_row}
use Rattle.abi_calls.specs.Sound.{IsSound}
use Rattle.abi_calls.specs.World as worlds
use Rattle.mono_model.specs.Machine.{Mono, register}
use Rattle.mono_model.specs.Written.{nothing}
use Rattle.mono_model.specs.Calls.{Caller, silently, moved, finished}
use Rattle.mono_model.specs.FileCalls.{READ, FSTAT, stored, given, taken_from, read_bytes}
use Rattle.libos_state.specs.declared.cont.Cont.{Cont}
use Rattle.libos_state.specs.declared.cont.Stage.{Stage}
use Rattle.libos_state.specs.declared.cont.Stage.TheVariants.{SetContext, ReadStream, StoreBytes}
use Rattle.libos_state.specs.declared.notes.Description.{Description}
use Rattle.libos_state.specs.declared.notes.Kind.{Kind}
use Rattle.libos_state.specs.declared.notes.Kind.TheVariants as kind
use Rattle.libos_state.specs.declared.state.LibOs.{LibOs}
use Rattle.libos_state.specs.Records.{View, Visible, visible, base, stream_seen, description_behind}
use Rattle.libos_state.specs.Pending.{asked, upcall_in, argument, handle_of, position_of, wanted_stream}
use Rattle.libos_state.specs.Answered.{goes_on, service_with_result, service_storing}
use Rattle.libos_state.specs.Meaning.{Meaning, caller_in, trap_in, leads_to, meaning, meant_at}
use Rattle.libos_state.specs.Fits.{Fits, FitsObjects, FitsStage, FitsEvent, is_fit_access, is_call, is_recorded, comes_to, most_stored, reads, stores}
use Rattle.libos_state.proofs.Holds.{Holds}
use Rattle.libos_state.proofs.Rows.{holds_by}
use Rattle.libos_state.proofs.OpenStreams.{seen_there, stream_there, access_there}
use Rattle.libos_state.proofs.ReadCalls.{served_read, ReadTrap, read_trap, no_output, no_errors}
use Rattle.libos_state.proofs.Serving.{trap_of, on_trap, named_as-no_kinds, FitsTrap-with_service, result_fits, storing_fits}
use Rattle.libos_state.proofs.Views.{world, on_world, Answer, AnswersAs, answer, on_contents}

few_moved : (count : ℕ) → moved count ≤ 65536
few_moved count = omega arith

module _ (os : LibOs) (c : Cont) (w : View) (fits : FitsStage os w.objects c ReadStream) where
  abbrev v : Visible
  v = visible w

  named_none : FitsObjects os w.objects [] None
  named_none = subst (λ kept. FitsObjects os w.objects kept None) (named_as-no_kinds c.handles) fits.objects

  reading : ReadTrap os w.objects (upcall_in c.event) ReadStream
  reading =
      let trap = trap_of os w.objects c.event ReadStream refl fits.event in
      read_trap os w.objects (upcall_in c.event) ReadStream fits.records named_none trap trap.comes

  abbrev description : Description
  description = reading.reads.description

  abbrev object : Option Object
  object = object_at w.objects description.handle

  abbrev m : Mono
  m = base os v

  abbrev who : Caller
  who = caller_in os c

  abbrev count : ℕ
  count = moved (argument c 2)

  abbrev position : ℕ
  position = description.position

  -- what the host answers
  abbrev read_of_stream : StreamName → Answer
  read_of_stream s = on_contents w (read_row w.contents position count s)

  object_there : object_at w.objects (wanted_stream os c) ≡ Some (Stream (stream_seen description.kind object))
  object_there = ap (λ x. object_at w.objects (handle_of x)) reading.reads.behind
      ∙ stream_there os v (upcall_in c.event) [] None fits.records named_none reading.home description reading.reads.behind

  row : (r : Reply) → answer w (asked os c ReadStream) r ≡ read_of_stream (stream_seen description.kind object)
  row r =
      (λ i. on_world w (stream_read_row (world w) (position_of (reading.reads.behind i)) count r (object_there i)))
      ∙ ap (on_world w) (cond-false (nat_lt 65536 count) (TooBig, world w) (worlds.on_contents (world w) (read_row w.contents position count (stream_seen description.kind object)))
      (le-ltb 65536 count (few_moved (argument c 2))))

  -- what the stage stands for
  abbrev read_from_kind : Kind → Meaning
  read_from_kind k = leads_to (silently (read_bytes (taken_from m count (stream_seen k object)) who (given m position count (stream_seen k object))))

  meant : meant_at os v c ReadStream ≡ read_from_kind description.kind
  meant = ap leads_to (served_read m who (trap_in c) _ reading.reads.call reading.reads.number
      (seen_there os v (upcall_in c.event) [] None fits.records named_none reading.home description reading.reads.behind) reading.reads.readable reading.reads.some)

  -- the bytes that came go to the caller's memory, or there are none
  abbrev next_if : List ℕ → Bool → Cont
  next_if bytes none = cond none (service_with_result c 0) (service_storing c (argument c 1) bytes (length bytes))

  event_at : (next : Cont) (stage : Stage) → comes_to os (upcall_in c.event) stage ≡ true → FitsEvent (goes_on os next) w.objects c.event stage
  event_at next stage comes = on_trap os (goes_on os next) w.objects w.objects c.event ReadStream stage refl fits.event
      (FitsTrap-with_service os (Some next) w.objects (upcall_in c.event) ReadStream stage reading.trap comes)

  stores_too : (stores os (upcall_in c.event) && is_recorded os (upcall_in c.event)) ≡ true
  stores_too =
      let u = upcall_in c.event in
      let parts = and_parts (reads os u) (is_recorded os u) reading.trap.comes in
      and_from (stores os u) (is_recorded os u) (or_left (reads os u) (is_call u FSTAT && is_some (description_behind os u.process (register u.context 10))) parts.0) parts.1

  most_read : most_stored (upcall_in c.event) ≡ count
  most_read =
      let u = upcall_in c.event in
      λ i. cond (reading.reads.call i && (eqb-true (register u.context 17) READ reading.reads.number i == FSTAT)) 128 count

  next_fits : (bytes : List ℕ) → length bytes ≤ count → (none : Bool) → Fits (goes_on os (next_if bytes none)) w.objects
  next_fits bytes few true = result_fits os w.objects c 0 fits.records named_none (event_at (next_if bytes true) SetContext reading.returns)
  next_fits bytes few false = storing_fits os w.objects c (argument c 1) bytes (length bytes) fits.records named_none (event_at (next_if bytes false) StoreBytes stores_too)
      (subst (λ n. length bytes ≤ n) (sym most_read) few)

  next_means : (bytes : List ℕ) (after : Visible) (none : Bool) → meaning (goes_on os (next_if bytes none)) after
      ≡ leads_to (silently (cond none (finished (base os after) who 0) (stored (base os after) who (argument c 1) bytes (length bytes))))
  next_means bytes after true = refl
  next_means bytes after false = refl

  access : is_fit_access description.kind description.access ≡ true
  access = access_there os v (upcall_in c.event) [] None fits.records named_none reading.home description reading.reads.behind

  -- a file, or the console's input, which loses its bytes
  read_holds : (k : Kind) → description.kind ≡ k → Holds os c ReadStream w (read_of_stream (stream_seen k object)).0 (read_of_stream (stream_seen k object)).1
  read_holds kind.ConIn is =
      let bytes = take count w.contents.input in
      let after : View = record w { contents = record w.contents { input = drop count w.contents.input } } in
      record {
        fits = next_fits bytes (omega (arith, length-take count w.contents.input)) (length bytes == 0);
        keeps = record {
          written = nothing;
          output = sym (append-nil w.contents.output);
          errors = sym (append-nil w.contents.errors);
          input = record { taken = bytes; is = sym (take-append-drop count w.contents.input) };
          files = inl refl;
          same = meant ∙ ap read_from_kind is ∙ sym (next_means bytes (visible after) (length bytes == 0));
        };
      }
  read_holds kind.ConOut is = absurd (no_output description.kind description.access access reading.reads.readable is)
  read_holds kind.ConErr is = absurd (no_errors description.kind description.access access reading.reads.readable is)
  read_holds kind.File is =
      let bytes = given m position count (stream_seen kind.File object) in
      record {
        fits = next_fits bytes (omega (arith, length-take {A = ℕ})) (length bytes == 0);
        keeps = record {
          written = nothing;
          output = sym (append-nil w.contents.output);
          errors = sym (append-nil w.contents.errors);
          input = record { taken = []; is = refl };
          files = inl refl;
          same = meant ∙ ap read_from_kind is ∙ sym (next_means bytes v (length bytes == 0));
        };
      }

pub keeps_read_stream : (os : LibOs) (c : Cont) (w w' : View) (r : Reply) → FitsStage os w.objects c ReadStream → IsSound w.objects → AnswersAs w (asked os c ReadStream) r w' → Holds os c ReadStream w r w'
keeps_read_stream os c w w' r fits sound abi =
    let d = description os c w fits in
    holds_by os c ReadStream w w' r (read_of_stream os c w fits (stream_seen d.kind (object os c w fits))) abi (row os c w fits r) (read_holds os c w fits d.kind refl)

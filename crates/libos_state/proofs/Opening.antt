-- The first stages of a start: the host gets the settings, and the console and the program's file
-- are opened.
use Rattle.std.specs.Prelude.{◌≡◌, ◌⊎◌, ℕ, ◌≤◌, Bool, true, false, not, ◌||◌, ◌==◌, if◌then◌else◌, nat_lt, List, [], ◌∷◌, ◌++◌, length, slice_index}
use Rattle.std.specs.Option.{unwrap_or}
use Rattle.std.specs.declared.result.Result.{Result}
use Rattle.std.specs.declared.result.Result.TheVariants.{Ok, Err}
use Rattle.std.specs.declared.option.Option.{Option}
use Rattle.std.specs.declared.option.Option.TheVariants.{None, Some}
use Rattle.std.proofs.Common.{refl, inl, inr, sym, ap, subst, ◌∙◌, arith, le-ltb, ne_eqb, eqb-true}
use Rattle.std.proofs.lemmas.Bool.{eqb-false, ltb-false}
use Rattle.std.proofs.lemmas.List.{length_push, get_or_push}
use Rattle.bas_edge.specs.Files.{Files, file_of, file_bytes}
use Rattle.bas_names.specs.declared.Rule.{Rule}
use Rattle.bas_names.specs.Names as names
use Rattle.bas_names.specs.Names.{passed, judged}
use Rattle.bas_names.specs.declared.StreamName.TheVariants.{File, ConIn, ConOut, ConErr}
use Rattle.abi_calls.specs.declared.object.Object.TheVariants.{Stream}
use Rattle.abi_calls.specs.declared.reply.Reply.{Reply}
use Rattle.abi_calls.specs.declared.reply.Reply.TheVariants.{Done, Handle, NotFound, Busy, TooBig}
use Rattle.turn_sched.specs.declared.settings.Positions.{Positions}
use Rattle.turn_sched.specs.declared.settings.Settings.{Settings}
use Rattle.abi_calls.specs.Objects.{Objects, object_at, number_of, with_object}
use Rattle.abi_calls.specs.Streams.{open_answer, named, open_found, stream_open_row}
use Rattle.abi_calls.specs.Processes.{is_running, is_acceptable, configure_row}
use Rattle.abi_calls.specs.Abi.{new_number}
use Rattle.abi_calls.specs.declared.call.Call.{Call}
use Rattle.abi_calls.specs.declared.call.Call.TheVariants.{StreamOpen}
use Rattle.abi_calls.specs.World as worlds
use Rattle.abi_calls.specs.World.{World}
use Rattle.abi_calls.specs.Rules as faults
use Rattle.abi_calls.specs.Rules.{NameFault, call_below, call_named, unless_ended_at, refusal_of}
use Rattle.abi_calls.specs.Sound.{IsSound}
use Rattle.bas_items.proofs.NumberMaps.{get-insert-same}
use Rattle.mono_model.specs.Starting as begins
use Rattle.mono_model.specs.Starting.{started, started_if, started_with, file_below, file_under}
use Rattle.libos_state.specs.declared.cont.Cont.{Cont}
use Rattle.libos_state.specs.declared.cont.Stage.TheVariants.{OpenConsole, OpenProgram, ProgramLength}
use Rattle.libos_state.specs.declared.cont.Stage.TheVariants as stage
use Rattle.libos_state.specs.declared.state.Boot.TheVariants.{NoProgram}
use Rattle.libos_state.specs.declared.notes.Kind.TheVariants as kind
use Rattle.libos_state.specs.declared.state.LibOs.{LibOs}
use Rattle.libos_state.specs.Records.{View, Visible, visible, with_visible}
use Rattle.libos_state.specs.Pending.{program_name, arguments, console_name, no_positions, asked}
use Rattle.libos_state.specs.Answered.{goes_on, starting}
use Rattle.libos_state.specs.Records.{file_seen}
use Rattle.libos_state.specs.Meaning.{meaning, meant_at, settles, unstarted, job_in, program_file}
use Rattle.libos_state.specs.Named.{AStreamOf, is_of, named_as, consoles}
use Rattle.libos_state.specs.Fits.{Fits, FitsStage, FitsNone, FitsObjects}
use Rattle.libos_state.proofs.Going.{with_service}
use Rattle.libos_state.proofs.Holds.{HoldsQuietly, Keeps-silent}
use Rattle.libos_state.proofs.Rows.{quietly_by_row, fresh_handle}
use Rattle.libos_state.proofs.Naming.{FitsObjects-same, FitsObjects-new, named_as-push}
use Rattle.libos_state.proofs.Handles.{console_kind, named_as-console, list_all-named_as, recorded-start, is_no_process, excludes-running, number_of-excluded}
use Rattle.libos_state.proofs.Serving.{named_as-no_kinds}
use Rattle.libos_state.proofs.Starts.{start_of, names_of, start_goes_on, start_stops}
use Rattle.libos_state.proofs.Views.{world, on_world, Through, answered_below, refused_at_lists, Answer, AnswersAs, answer, on_objects, with_objects}

-- ---- the host gets the settings

row_configured : (o : Objects) (settings : Settings) (positions : Positions)
    → is_acceptable settings ≡ true → o.positions.turns ≡ 0 → number_of is_running o.live ≡ 0
    → configure_row o settings positions
    ≡ (Done, record o { settings = settings; positions = positions })
row_configured o settings positions acceptable unturned idle = λ i.
    if not (acceptable i) then (TooBig, o)
    else (if not (unturned i == 0) || nat_lt 0 (idle i) then (Busy, o)
    else (Done, record o { settings = settings; positions = positions }))

pub keeps_configure : (os : LibOs) (c : Cont) (w w' : View) (r : Reply)
    → FitsStage os w.objects c stage.Configure → IsSound w.objects
    → AnswersAs w (asked os c stage.Configure) r w' → HoldsQuietly os c stage.Configure w r w'
keeps_configure os c w w' r fits sound abi =
    let start = start_of os w.objects c stage.Configure refl fits in
    let o : Objects = record w.objects { settings = os.settings; positions = no_positions } in
    let idle = number_of-excluded is_no_process is_running w.objects excludes-running os
    (named_as c.handles []) (recorded-start os w.objects stage.Configure start) fits.objects
    (list_all-named_as is_no_process c.handles [] refl) in
    let objects = FitsObjects-same os w.objects o [] None (λ q. refl)
    (subst (λ names. FitsObjects os w.objects names None) (named_as-no_kinds c.handles) fits.objects) in
    quietly_by_row os c stage.Configure w w' r Done o abi
    (ap (on_objects w) (row_configured w.objects os.settings no_positions fits.kept fits.made idle))
    (record {
      fits = start_goes_on os w.objects c stage.Configure refl fits o OpenConsole [] [] [] refl
          start.current objects (λ _. refl) (omega arith) refl tt tt;
      means = refl;
    })

-- ---- an end of the console is opened

console_opens : (w : World) (h : ℕ) (a b : Bool)
    → stream_open_row w (if a then ConIn else (if b then ConOut else ConErr)) false false h
    ≡ (
      Handle h,
      worlds.with_objects w (with_object w.objects h
          (Stream (if a then ConIn else (if b then ConOut else ConErr)))),
    )
console_opens w h true b = refl
console_opens w h false true = refl
console_opens w h false false = refl

console_is : (n : ℕ) → is_of (AStreamOf (console_kind n)) (Some (Stream (console_name n))) ≡ true
console_is n = elim (n == 0) as (λ a. is_of (AStreamOf (if a then kind.ConIn else (if n == 1 then kind.ConOut else kind.ConErr)))
    (Some (Stream (if a then ConIn else (if n == 1 then ConOut else ConErr)))) ≡ true) [
      | true ↦ refl
      | false ↦ elim (n == 1) as (λ b. is_of (AStreamOf (if b then kind.ConOut else kind.ConErr)) (Some (Stream (if b then ConOut else ConErr))) ≡ true) [
        | true ↦ refl
        | false ↦ refl
      ]
    ]

-- With all three open the program's file is opened next, and else the next end.
opens_fit : (os : LibOs) (o o' : Objects) (c : Cont) (handles : List ℕ) (b : Bool)
    → FitsStage os o c OpenConsole → o'.lists.current ≡ None
    → FitsObjects os o' (named_as handles consoles) None → length handles ≤ 3
    → (length handles == 3) ≡ b
    → Fits (goes_on os (starting c (if b then OpenProgram else OpenConsole) [] handles [])) o'
opens_fit os o o' c handles true fits current objects few all =
    start_goes_on os o c OpenConsole refl fits o' OpenProgram [] handles [] refl current objects
    (λ _. refl) (eqb-true (length handles) 3 all) refl tt tt
opens_fit os o o' c handles false fits current objects few some =
    let apart = eqb-false (length handles) 3 some in
    start_goes_on os o c OpenConsole refl fits o' OpenConsole [] handles [] refl current objects
    (λ _. refl) (omega arith) refl tt tt

opens_means : (os : LibOs) (v : Visible) (c : Cont) (handles : List ℕ) (b : Bool)
    → meaning (goes_on os (starting c (if b then OpenProgram else OpenConsole) [] handles [])) v
    ≡ settles (started (unstarted v) (job_in c))
opens_means os v c handles true = refl
opens_means os v c handles false = refl

pub keeps_open_console : (os : LibOs) (c : Cont) (w w' : View) (r : Reply)
    → FitsStage os w.objects c OpenConsole → IsSound w.objects
    → AnswersAs w (asked os c OpenConsole) r w' → HoldsQuietly os c OpenConsole w r w'
keeps_open_console os c w w' r fits sound abi =
    let h = new_number r in
    let name = console_name (length c.handles) in
    let handles = c.handles ++ h ∷ [] in
    let o = with_object w.objects h (Stream name) in
    let row : answer w (asked os c OpenConsole) r ≡ (Handle h, with_objects w o) =
    ap (on_world w) (console_opens (world w) h (length c.handles == 0) (length c.handles == 1)) in
    let fresh = fresh_handle w w' (asked os c OpenConsole) r h (with_objects w o) abi row in
    let few = fits.lists.handles in
    let objects = subst (λ names. FitsObjects os o names None) (sym (named_as-console c.handles h few))
    (FitsObjects-new os w.objects h (Stream name) (AStreamOf (console_kind (length c.handles))) (named_as c.handles consoles) None
    fresh.free refl (console_is (length c.handles)) fits.objects) in
    let current = (start_of os w.objects c OpenConsole refl fits).current in
    let short : length handles ≤ 3 = omega (arith, length_push c.handles h) in
    quietly_by_row os c OpenConsole w w' r (Handle h) o abi row (record {
      fits = opens_fit os w.objects o c handles (length handles == 3) fits current objects short refl;
      means = opens_means os (with_visible (visible w) o) c handles (length handles == 3);
    })

-- ---- the program's file is opened, or there is none

-- A file that is there is opened, and one that isn't stays so.
abbrev found_answer : World → List ℕ → ℕ → Option (List ℕ) → worlds.Answer
found_answer w name h found =
    let row = open_found w.contents.files name false false found in
    open_answer w (File name) h row.1 row.0

open_row : (w : World) (name : List ℕ) (h : ℕ) (found : Option (List ℕ)) → 1 ≤ length name
    → length name ≤ 80 → file_of w.contents.files name ≡ found
    → stream_open_row w (File name) false false h ≡ found_answer w name h found
open_row w name h found some short is =
    let fits : nat_lt 80 (length name) ≡ false = le-ltb 80 (length name) short in
    let some_byte : (length name == 0) ≡ false = ne_eqb (length name) 0 (λ e. omega arith) in
    let files = w.contents.files in
    let row : named files name (open_found files name false false (file_of files name))
    ≡ open_found files name false false found =
    λ i. if fits i then (TooBig, files)
    else (if some_byte i then (NotFound, files) else open_found files name false false (is i)) in
    ap (λ x. open_answer w (File name) h x.1 x.0) row

-- The call that opens a name's file for reading.
abbrev opening : List ℕ → Call
opening name = StreamOpen (File name) false false

-- A name comes through the lists to another, whose file it leads to; or a list ends it, and it leads to none.
abbrev Comes : List (List Rule) → Files → Result Call NameFault → Option (List ℕ) → Type 0
Comes lists files call file =
    ((name : List ℕ) × (call ≡ Ok (opening name)) × (file ≡ file_of files name)
    × (1 ≤ length name) × (length name ≤ 80))
    ⊎ ((fault : NameFault) × (call ≡ Err fault) × (file ≡ None))

judged_at : (lists : List (List Rule)) (files : Files)
    → ((name : List ℕ) → 1 ≤ length name → length name ≤ 80
    → Comes lists files (call_below lists (opening name)) (file_under lists files name))
    → (name : List ℕ) (long empty : Bool) → nat_lt 80 (length name) ≡ long
    → (length name == 0) ≡ empty
    → Comes lists files
    (unless_ended_at (call_below lists)
    (if long then Err faults.TooLong else (if empty then Err faults.Empty else Ok (opening name))))
    (file_below (file_under lists files)
    (if long then names.TooLong 1 else (if empty then names.Empty 1 else names.Named name)))
judged_at lists files rest name true empty long none = inr (faults.TooLong, refl, refl)
judged_at lists files rest name false true long none = inr (faults.Empty, refl, refl)
judged_at lists files rest name false false long none =
    let some = eqb-false (length name) 0 none in
    let few = ltb-false 80 (length name) long in
    rest name (omega arith) few

passed_comes : (lists : List (List Rule)) (files : Files)
    → ((name : List ℕ) → 1 ≤ length name → length name ≤ 80
    → Comes lists files (call_below lists (opening name)) (file_under lists files name))
    → (x : Option (List ℕ))
    → Comes lists files (unless_ended_at (call_below lists) (call_named x opening))
    (file_below (file_under lists files) (judged 1 x))
passed_comes lists files rest None = inr (faults.Denied, refl, refl)
passed_comes lists files rest (Some name) =
    judged_at lists files rest name (nat_lt 80 (length name)) (length name == 0) refl refl

name_comes : (lists : List (List Rule)) (files : Files) (name : List ℕ) → 1 ≤ length name
    → length name ≤ 80
    → Comes lists files (call_below lists (opening name)) (file_under lists files name)
name_comes [] files name some short = inl (name, refl, refl, some, short)
name_comes (rules ∷ lists) files name some short =
    passed_comes lists files (name_comes lists files) (passed rules name)

-- A start without a program's file stops, whatever the refusal is.
stops_unopened : (os : LibOs) (c : Cont) (w : View) (fault : NameFault)
    → FitsStage os w.objects c OpenProgram
    → file_under w.rules w.contents.files (program_name c) ≡ None
    → HoldsQuietly os c OpenProgram w (refusal_of fault) w
stops_unopened os c w fault fits none =
    let stopped = start_stops os w.objects c OpenProgram refl fits w.objects NoProgram c.handles
    (start_of os w.objects c OpenProgram refl fits).current fits.lists.handles fits.objects in
    let means : settles begins.NoProgram ≡ meant_at os (visible w) c OpenProgram =
    sym (ap (λ x. settles (started_if (unstarted (visible w)) (arguments c) x)) none) in
    stops_at fault stopped means
  where
    stops_at : (fault : NameFault) → FitsNone (with_service os NoProgram None) w.objects
        → settles begins.NoProgram ≡ meant_at os (visible w) c OpenProgram
        → HoldsQuietly os c OpenProgram w (refusal_of fault) w
    stops_at faults.Denied stopped means = record {
      holds = record { fits = stopped; keeps = Keeps-silent w w _ _ refl means };
      quiet = refl;
    }
    stops_at faults.TooLong stopped means = record {
      holds = record { fits = stopped; keeps = Keeps-silent w w _ _ refl means };
      quiet = refl;
    }
    stops_at faults.Empty stopped means = record {
      holds = record { fits = stopped; keeps = Keeps-silent w w _ _ refl means };
      quiet = refl;
    }

opened_program : (os : LibOs) (c : Cont) (w w' : View) (r : Reply) (name : List ℕ)
    → FitsStage os w.objects c OpenProgram → AnswersAs w (opening name) r w'
    → 1 ≤ length name → length name ≤ 80
    → file_under w.rules w.contents.files (program_name c) ≡ file_of w.contents.files name
    → (found : Option (List ℕ)) → file_of w.contents.files name ≡ found
    → HoldsQuietly os c OpenProgram w r w'
opened_program os c w w' r name fits abi some short same None is =
    quietly_by_row os c OpenProgram w w' r NotFound w.objects abi
    (ap (on_world w) (open_row (world w) name (new_number r) None some short is))
    (record {
      fits = start_stops os w.objects c OpenProgram refl fits w.objects NoProgram c.handles
          (start_of os w.objects c OpenProgram refl fits).current fits.lists.handles fits.objects;
      means = sym (ap (λ x. settles (started_if (unstarted (visible w)) (arguments c) x)) (same ∙ is));
    })
opened_program os c w w' r name fits abi some short same (Some bytes) is =
    let h = new_number r in
    let handles = c.handles ++ h ∷ [] in
    let o = with_object w.objects h (Stream (File name)) in
    let v = with_visible (visible w) o in
    let row : answer w (opening name) r ≡ (Handle h, with_objects w o) =
    ap (on_world w) (open_row (world w) name h (Some bytes) some short is) in
    let fresh = fresh_handle w w' (opening name) r h (with_objects w o) abi row in
    let held : length c.handles ≡ 3 = fits.lists.handles in
    let objects = subst (λ kept. FitsObjects os o kept None)
    (sym (named_as-push c.handles consoles h (AStreamOf kind.File) held))
    (FitsObjects-new os w.objects h (Stream (File name)) (AStreamOf kind.File) (named_as c.handles consoles)
    None fresh.free refl refl fits.objects) in
    let last : slice_index handles 3 ≡ h = get_or_push c.handles h 0 3 held in
    let file : object_at o (slice_index handles 3) ≡ Some (Stream (File name)) =
    ap (object_at o) last ∙ get-insert-same w.objects.live h (Stream (File name)) in
    let contents : program_file v (starting c ProgramLength [] handles []) ≡ bytes =
    ap (λ x. file_bytes w.contents.files (file_seen x)) file
    ∙ ap (λ f. unwrap_or f []) is in
    quietly_by_row os c OpenProgram w w' r (Handle h) o abi row (record {
      fits = start_goes_on os w.objects c OpenProgram refl fits o ProgramLength [] handles [] refl
          (start_of os w.objects c OpenProgram refl fits).current objects (λ _. refl)
          (omega (arith, length_push c.handles h)) refl tt tt;
      means = ap (λ x. settles (started_with (unstarted v) (arguments c) x)) contents
          ∙ sym (ap (λ x. settles (started_if (unstarted (visible w)) (arguments c) x)) (same ∙ is));
    })

opens_where : (os : LibOs) (c : Cont) (w w' : View) (r : Reply)
    → FitsStage os w.objects c OpenProgram → Through w (asked os c OpenProgram) r w'
    → Comes w.rules w.contents.files (call_below w.rules (opening (program_name c)))
    (file_under w.rules w.contents.files (program_name c))
    → HoldsQuietly os c OpenProgram w r w'
opens_where os c w w' r fits through (inl to) =
    opened_program os c w w' r to.0 fits
    (answered_below w w' (opening (program_name c)) (opening to.0) r to.1 through)
    to.3 to.4 to.2 (file_of w.contents.files to.0) refl
opens_where os c w w' r fits through (inr ends) =
    subst (λ (x : Answer). HoldsQuietly os c OpenProgram w x.0 x.1)
    (refused_at_lists w w' (opening (program_name c)) ends.0 r ends.1 through)
    (stops_unopened os c w ends.0 fits ends.2)

pub keeps_open_program : (os : LibOs) (c : Cont) (w w' : View) (r : Reply)
    → FitsStage os w.objects c OpenProgram → IsSound w.objects
    → Through w (asked os c OpenProgram) r w' → HoldsQuietly os c OpenProgram w r w'
keeps_open_program os c w w' r fits sound through =
    let named = names_of os w.objects c OpenProgram refl fits in
    opens_where os c w w' r fits through
    (name_comes w.rules w.contents.files (program_name c) named.named named.short)

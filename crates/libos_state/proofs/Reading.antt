-- The program's file is read and closed.
use Rattle.std.specs.Prelude.{◌≡◌, ℕ, ◌-◌, ◌≤◌, Bool, true, false, ◌==◌, if◌then◌else◌, nat_lt, nat_le, List, [], ◌∷◌, ◌++◌, length, take, drop, min, slice_index}
use Rattle.std.specs.declared.option.Option.{Option}
use Rattle.std.specs.declared.option.Option.TheVariants.{None, Some}
use Rattle.std.proofs.Common.{refl, sym, ap, subst, ◌∙◌, arith, le-ltb, eqb-true, leb-true, leb-false, append-nil, length-append, length-take}
use Rattle.std.proofs.lemmas.Bool.{eqb-false}
use Rattle.std.proofs.lemmas.List.{nil_from_length, take_all}
use Rattle.bas_edge.specs.Files.{file_bytes}
use Rattle.bas_names.specs.declared.StreamName.TheVariants.{File}
use Rattle.abi_calls.specs.declared.object.Object.TheVariants.{Stream}
use Rattle.abi_calls.specs.declared.reply.Reply.{Reply}
use Rattle.abi_calls.specs.declared.reply.Reply.TheVariants.{Done, Bytes, Length, TooBig}
use Rattle.abi_calls.specs.Objects.{Object, Objects, object_at, without_handles}
use Rattle.abi_calls.specs.Streams.{stream_length_row, stream_read_row}
use Rattle.abi_calls.specs.Processes.{close_row}
use Rattle.abi_calls.specs.Sound.{IsSound}
use Rattle.turn_sched.specs.Lists.{unless_ended}
use Rattle.elf_loader.specs.declared.ElfError.{ElfError}
use Rattle.elf_loader.specs.Image.{program_of, unless_refused}
use Rattle.elf_loader.specs.Refusal.{refusal}
use Rattle.mono_model.specs.Starting.{started_with, begun_from}
use Rattle.libos_state.specs.declared.cont.Cont.{Cont}
use Rattle.libos_state.specs.declared.cont.Stage.TheVariants.{ProgramLength, ReadProgram, CloseProgram, CreateProcess}
use Rattle.libos_state.specs.declared.state.Boot.TheVariants.{BadProgram}
use Rattle.libos_state.specs.declared.notes.Kind.TheVariants as kind
use Rattle.libos_state.specs.declared.state.LibOs.{LibOs}
use Rattle.libos_state.specs.Records.{View, visible, with_visible}
use Rattle.libos_state.specs.Pending.{number, arguments, asked, file_or_child, PIECE}
use Rattle.libos_state.specs.Answered.{goes_on, starting, with_step, load_step}
use Rattle.libos_state.specs.Records.{file_seen}
use Rattle.libos_state.specs.Meaning.{settles, unstarted, program_file, meant_at}
use Rattle.libos_state.specs.Named.{AStreamOf, named_as, consoles}
use Rattle.libos_state.specs.Fits.{Fits, FitsStage, FitsObjects}
use Rattle.libos_state.proofs.Holds.{HoldsQuietly}
use Rattle.libos_state.proofs.Rows.{Stands, quietly_by_row}
use Rattle.libos_state.proofs.Naming.{FitsObjects-closed}
use Rattle.libos_state.proofs.Handles.{file_there, named_as-fourth}
use Rattle.libos_state.proofs.Starts.{start_of, start_goes_on, start_stops}
use Rattle.libos_state.proofs.Pieces.{read_and_rest, nothing_left, piece_is_all}
use Rattle.abi_calls.specs.World as worlds
use Rattle.abi_calls.specs.World.{World}
use Rattle.libos_state.proofs.Views.{world, on_world, Answer, AnswersAs, answer, on_objects, with_objects}

-- ---- its length is asked for

length_stands : (os : LibOs) (c : Cont) (w : View) (size : ℕ) (b : Bool)
    → FitsStage os w.objects c ProgramLength → length (program_file (visible w) c) ≡ size
    → (size == 0) ≡ b
    → Stands (goes_on os (if b then starting c CloseProgram [] c.handles []
    else starting c ReadProgram [] c.handles (size ∷ []))) (visible w)
    (meant_at os (visible w) c ProgramLength)
length_stands os c w size true fits long empty =
    let v = visible w in
    let none : program_file v c ≡ [] = nil_from_length (program_file v c) (long ∙ eqb-true size 0 empty) in
    record {
      fits = start_goes_on os w.objects c ProgramLength refl fits w.objects CloseProgram [] c.handles []
          refl (start_of os w.objects c ProgramLength refl fits).current fits.objects (λ _. refl)
          fits.lists.handles refl tt tt;
      means = ap (λ x. settles (started_with (unstarted v) (arguments c) x)) (sym none);
    }
length_stands os c w size false fits long some =
    let v = visible w in
    let apart = eqb-false size 0 some in
    let all : take (size - 0) (program_file v c) ≡ program_file v c =
    take_all (size - 0) (program_file v c) (omega arith) in
    record {
      fits = start_goes_on os w.objects c ProgramLength refl fits w.objects ReadProgram [] c.handles
          (size ∷ []) refl (start_of os w.objects c ProgramLength refl fits).current fits.objects
          (λ _. refl) fits.lists.handles refl
          (record { size = size; kept = refl; read = omega arith }) tt;
      means = ap (λ x. settles (started_with (unstarted v) (arguments c) x)) all;
    }

pub keeps_program_length : (os : LibOs) (c : Cont) (w w' : View) (r : Reply)
    → FitsStage os w.objects c ProgramLength → IsSound w.objects
    → AnswersAs w (asked os c ProgramLength) r w' → HoldsQuietly os c ProgramLength w r w'
keeps_program_length os c w w' r fits sound abi =
    let size = length (program_file (visible w) c) in
    let file = file_there os w.objects c.handles fits.lists.handles fits.objects in
    let row : answer w (asked os c ProgramLength) r ≡ (Length size, w) =
    ap (λ x. on_world w (stream_length_row (world w) x)) file.is
    ∙ ap {B = Answer} (λ x. (Length (length (file_bytes w.contents.files (file_seen x))), w))
    (sym file.is) in
    quietly_by_row os c ProgramLength w w' r (Length size) w.objects abi row
    (length_stands os c w size (size == 0) fits refl refl)

-- ---- a piece is read

abbrev left_of : View → Cont → List ℕ
left_of w c = drop (length c.bytes) (program_file (visible w) c)

abbrev piece_of : View → Cont → List ℕ
piece_of w c = take (min PIECE (number c 0 - length c.bytes)) (left_of w c)

-- The file is closed next, or more of it is read.
module _ (os : LibOs) (c : Cont) (w : View) (fits : FitsStage os w.objects c ReadProgram) where
  size_kept : number c 0 ≡ fits.kept.size
  size_kept = ap (λ ns. slice_index ns 0) fits.kept.kept

  closes_next : (bytes : List ℕ)
      → Fits (goes_on os (starting c CloseProgram bytes c.handles [])) w.objects
  closes_next bytes = start_goes_on os w.objects c ReadProgram refl fits w.objects CloseProgram bytes
      c.handles [] refl (start_of os w.objects c ReadProgram refl fits).current fits.objects
      (λ other. absurd (cc)) fits.lists.handles refl tt tt

  reads_next : (bytes : List ℕ) → length bytes ≤ number c 0
      → Fits (goes_on os (starting c ReadProgram bytes c.handles c.numbers)) w.objects
  reads_next bytes short = start_goes_on os w.objects c ReadProgram refl fits w.objects ReadProgram
      bytes c.handles c.numbers refl (start_of os w.objects c ReadProgram refl fits).current
      fits.objects (λ other. absurd (cc)) fits.lists.handles fits.lists.numbers
      (record {
        size = fits.kept.size;
        kept = fits.kept.kept;
        read = let is = size_kept in omega arith;
      }) tt

  -- Nothing more is there, the last piece came, or more is to be read.
  piece_stands : (none last : Bool) → (length (piece_of w c) == 0) ≡ none
      → nat_le (number c 0) (length (c.bytes ++ piece_of w c)) ≡ last
      → Stands (goes_on os (if none then starting c CloseProgram c.bytes c.handles []
      else (if last then starting c CloseProgram (c.bytes ++ piece_of w c) c.handles []
      else starting c ReadProgram (c.bytes ++ piece_of w c) c.handles c.numbers))) (visible w)
      (meant_at os (visible w) c ReadProgram)
  piece_stands true last none _ =
      let left = number c 0 - length c.bytes in
      let rest : take left (left_of w c) ≡ [] =
      nothing_left (left_of w c) (min PIECE left) left (λ nil. omega arith)
      (eqb-true (length (piece_of w c)) 0 none) in
      record {
        fits = closes_next c.bytes;
        means = ap (λ xs. settles (started_with (unstarted (visible w)) (arguments c) xs))
            (sym (ap (λ xs. c.bytes ++ xs) rest ∙ append-nil c.bytes));
      }
  piece_stands false true some last =
      let left = number c 0 - length c.bytes in
      let long = leb-true (number c 0) (length (c.bytes ++ piece_of w c)) last in
      let all : piece_of w c ≡ take left (left_of w c) =
      piece_is_all (left_of w c) (min PIECE left) left (omega arith)
      (omega (arith, length-append c.bytes (piece_of w c))) in
      record {
        fits = closes_next (c.bytes ++ piece_of w c);
        means = ap (λ xs. settles (started_with (unstarted (visible w)) (arguments c) (c.bytes ++ xs))) all;
      }
  piece_stands false false some more =
      let short = leb-false (number c 0) (length (c.bytes ++ piece_of w c)) more in
      record {
        fits = reads_next (c.bytes ++ piece_of w c) (omega arith);
        means = ap (λ xs. settles (started_with (unstarted (visible w)) (arguments c) xs))
            (read_and_rest c.bytes (program_file (visible w) c) (number c 0)
            (min PIECE (number c 0 - length c.bytes)) (omega arith));
      }

row_read : (w : World) (offset count : ℕ) (r : Reply) (name : List ℕ) (x : Option Object)
    → count ≤ 65536 → x ≡ Some (Stream (File name))
    → stream_read_row w offset count r x
    ≡ (Bytes (take count (drop offset (file_bytes w.contents.files (file_seen x)))), w)
row_read w offset count r name x small is =
    let few : nat_lt 65536 count ≡ false = le-ltb 65536 count small in
    ap (stream_read_row w offset count r) is
    ∙ ap {B = worlds.Answer} (λ b. if b then (TooBig, w)
    else (Bytes (take count (drop offset (file_bytes w.contents.files name))), w)) few
    ∙ ap {B = worlds.Answer} (λ y. (
      Bytes (take count (drop offset
          (file_bytes w.contents.files (file_seen y)))),
      w,
    )) (sym is)

pub keeps_read_program : (os : LibOs) (c : Cont) (w w' : View) (r : Reply)
    → FitsStage os w.objects c ReadProgram → IsSound w.objects
    → AnswersAs w (asked os c ReadProgram) r w' → HoldsQuietly os c ReadProgram w r w'
keeps_read_program os c w w' r fits sound abi =
    let count = min PIECE (number c 0 - length c.bytes) in
    let file = file_there os w.objects c.handles fits.lists.handles fits.objects in
    let row : answer w (asked os c ReadProgram) r ≡ (Bytes (piece_of w c), w) =
    ap (on_world w) (row_read (world w) (length c.bytes) count r file.name
    (object_at w.objects (file_or_child c)) (omega arith) file.is) in
    quietly_by_row os c ReadProgram w w' r (Bytes (piece_of w c)) w.objects abi row
    (piece_stands os c w fits (length (piece_of w c) == 0)
    (nat_le (number c 0) (length (c.bytes ++ piece_of w c))) refl refl)

-- ---- the file is closed, and its bytes are a program or none

module _ (os : LibOs) (c : Cont) (w : View) (fits : FitsStage os w.objects c CloseProgram) where
  abbrev closed : Objects
  closed = without_handles w.objects (λ k. k == file_or_child c)

  closed_current : closed.lists.current ≡ None
  closed_current = ap (unless_ended (λ k. k == file_or_child c))
      (start_of os w.objects c CloseProgram refl fits).current

  three_left : length (take 3 c.handles) ≡ 3
  three_left = let held = fits.lists.handles in omega (arith, length-take 3 c.handles)

  closed_objects : FitsObjects os closed (named_as (take 3 c.handles) consoles) None
  closed_objects =
      let ends = named_as (take 3 c.handles) consoles in
      subst (λ names. FitsObjects os closed names None) (append-nil ends)
      (FitsObjects-closed os w.objects (file_or_child c) (AStreamOf kind.File) ends [] None
      (subst (λ names. FitsObjects os w.objects names None)
      (named_as-fourth c.handles (AStreamOf kind.File) fits.lists.handles) fits.objects))

  closed_stands : (refused : Option ElfError) → refusal c.bytes ≡ refused
      → Stands (with_step os (load_step c (unless_refused refused (program_of c.bytes))))
      (with_visible (visible w) closed) (meant_at os (visible w) c CloseProgram)
  closed_stands None taken = record {
    fits = start_goes_on os w.objects c CloseProgram refl fits closed CreateProcess c.bytes
        (take 3 c.handles) [] refl closed_current closed_objects (λ other. absurd (cc)) three_left
        refl taken tt;
    means = refl;
  }
  closed_stands (Some cause) is = record {
    fits = start_stops os w.objects c CloseProgram refl fits closed (BadProgram cause)
        (take 3 c.handles) closed_current three_left closed_objects;
    means = sym (ap (λ refused. settles (begun_from (unstarted (visible w)) (arguments c)
        (unless_refused refused (program_of c.bytes)))) is);
  }

pub keeps_close_program : (os : LibOs) (c : Cont) (w w' : View) (r : Reply)
    → FitsStage os w.objects c CloseProgram → IsSound w.objects
    → AnswersAs w (asked os c CloseProgram) r w' → HoldsQuietly os c CloseProgram w r w'
keeps_close_program os c w w' r fits sound abi =
    let h = file_or_child c in
    let o = without_handles w.objects (λ k. k == h) in
    let file = file_there os w.objects c.handles fits.lists.handles fits.objects in
    let row : answer w (asked os c CloseProgram) r ≡ (Done, with_objects w o) =
    ap (λ x. on_objects w (close_row w.objects h x)) file.is in
    quietly_by_row os c CloseProgram w w' r Done o abi row
    (closed_stands os c w fits (refusal c.bytes) refl)

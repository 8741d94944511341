-- Rows of the calls on memory, by what the pages of the process answer.
use Rattle.std.specs.Prelude.{◌≡◌, ℕ, ◌+◌, ◌-◌, ◌^◌, ◌<◌, ◌≤◌, ◌==◌, ◌||◌, ◌&&◌, not, Bool, true, false, nat_lt, nat_le, List, length, is_some, IsSome, unwrap_or, Result, Ok, Err, IfOk, OnErr}
use Rattle.std.specs.Option.{option_map, option_or}
use Rattle.std.specs.FinMap.{empty, get, len}
use Rattle.std.specs.declared.option.Option.{Option}
use Rattle.std.specs.declared.option.Option.TheVariants.{None, Some}
use Rattle.std.proofs.Common.{refl, sym, ap, subst, ◌∙◌, cond, arith}
use Rattle.std.proofs.lemmas.Bool.{and_from, and_parts, cond-true, cond-false, lt-ltb, le-leb, le-ltb}
use Rattle.std.proofs.lemmas.Bool.Decides.{nat_tests}
use Rattle.guest_space.specs.Space.{Frame, Space, IsSpace, memory_of, with_run, without_run, protected, with_memory}
use Rattle.guest_space.specs.Run.{is_run, first_held, first_missing, if_missing}
use Rattle.guest_space.proofs.FirstSome.{first_some_none_at}
use Rattle.guest_space.specs.Access.{AccessFault, Missing, Forbidden, first_fault, with_bytes}
use Rattle.guest_memory.specs.declared.error.PageError.{PageError}
use Rattle.guest_memory.specs.declared.error.PageError.TheVariants.{Overlap, Unmapped, Range, Full, Memory as NoMemory}
use Rattle.guest_memory.specs.Refusals.{allocate_refusal, free_refusal, protect_refusal}
use Rattle.abi_calls.specs.declared.object.Object.TheVariants.{Process}
use Rattle.abi_calls.specs.declared.call.Call.{Call}
use Rattle.abi_calls.specs.declared.call.Call.TheVariants.{MemoryAllocate, MemoryFree, MemoryProtect, MemoryWrite}
use Rattle.abi_calls.specs.declared.reply.Reply.{Reply}
use Rattle.abi_calls.specs.declared.reply.Reply.TheVariants.{Handle, Done, Exists, NoRoom, BadAddress}
use Rattle.abi_calls.specs.Objects.{Objects, Live, object_at, running}
use Rattle.abi_calls.specs.World.{World, world_of}
use Rattle.abi_calls.specs.Memory.{with_pages, memory_allocate_row, memory_free_row, memory_protect_row, memory_write_row, unless_fault}
use Rattle.abi_calls.specs.Abi.{object_row, IsFreeChoice}
use Rattle.bas_items.proofs.NumberMaps.{get-insert-same, insert-insert, insert-present}
use Rattle.host_objects.specs.Rows.{Row}
use Rattle.bas_edge.specs.declared.errors.Memory.{Memory}
use Rattle.host_objects.specs.Taken.{Took, allocate_result, access_reply}

-- ---- refusals
-- A reply that gives no new number leaves nothing to choose.
abbrev IsNoHandle : Reply → Type 0
IsNoHandle (Handle h) = ⊥
IsNoHandle _ = Unit {0}

no_choice : (w : World) (call : Call) (reply : Reply) → IsNoHandle reply → IsFreeChoice w call reply
no_choice w call (Handle h) none = absurd none
no_choice w call _ none = tt

-- ---- pages that are taken out and put back
pub took_there : (o o1 : Objects) (p : ℕ) (s : Space) → Took o p o1 s → IsSome (object_at o1 p)
took_there o o1 p s took = ap (λ q. is_some (object_at q p)) took.now ∙ ap is_some (get-insert-same o.live p (Process empty None))

pub put_back : (o o1 o2 : Objects) (p : ℕ) (s s' : Space) → Took o p o1 s → o2 ≡ with_pages o1 p s' → o2 ≡ with_pages o p s'
put_back o o1 o2 p s s' took e =
    e ∙ ap {A = Objects} (λ q. with_pages q p s') took.now
    ∙ ap {A = Live} (λ m. record o { live = m }) (insert-insert o.live p (Process empty None) (Process s' None))

pub put_same : (o o1 o2 : Objects) (p : ℕ) (s s' : Space) → Took o p o1 s → o2 ≡ with_pages o1 p s' → s' ≡ s → o2 ≡ o
put_same o o1 o2 p s s' took e same =
    put_back o o1 o2 p s s' took e ∙ ap {A = Space} (λ m. with_pages o p m) same
    ∙ ap {A = Live} (λ m. record o { live = m }) (insert-present o.live p (Process s None) took.was)

took_runs : (o o1 : Objects) (p : ℕ) (s : Space) → Took o p o1 s → running (object_at o p) ≡ Some s
took_runs o o1 p s took = ap running took.was

row_changed : (o o1 o2 : Objects) (p : ℕ) (s s' : Space) (call : Call) → Took o p o1 s → o2 ≡ with_pages o1 p s' → object_row o call Done ≡ (Done, with_pages o p s') → Row o call Done o2
row_changed o o1 o2 p s s' call took e row = record {
  choice = λ x. tt;
  row = row ∙ ap {A = Objects} (λ q. (Done, q)) (sym (put_back o o1 o2 p s s' took e));
}

row_refused : (o o1 o2 : Objects) (p : ℕ) (s s' : Space) (call : Call) (reply : Reply) → Took o p o1 s → o2 ≡ with_pages o1 p s' → s' ≡ s → IsNoHandle reply → object_row o call reply ≡ (reply, o) → Row o call reply o2
row_refused o o1 o2 p s s' call reply took e same none row = record {
  choice = λ x. no_choice (world_of o x) call reply none;
  row = row ∙ ap {A = Objects} (λ q. (reply, q)) (sym (put_same o o1 o2 p s s' took e same));
}

-- ---- MemoryAllocate
-- an allocation's tests are those of the pages
fair : (page count rights : ℕ) → (is_run page count && nat_le rights 7) ≡ (is_run page count && nat_lt rights 8)
fair page count rights = let same : nat_le rights 7 ≡ nat_lt rights 8 = grind (arith, nat_tests) in ap (λ b. is_run page count && b) same

not_le : (n : ℕ) → nat_lt 1024 n ≡ not (nat_le n 1024)
not_le n = grind (arith, nat_tests)

granted_at : (ok fits : Bool) (held : Option ℕ) → cond ok (option_or (option_map Overlap held) (cond fits None (Some Full))) (Some Range) ≡ None → (a b c d : Reply × Objects) (ok' over : Bool) → ok' ≡ ok → over ≡ not fits → cond (not ok') a (cond (is_some held) b (cond over c d)) ≡ d
granted_at false fits held none a b c d ok' over same past = absurd (cc)
granted_at true false None none a b c d ok' over same past = absurd (cc)
granted_at true false (Some page) none a b c d ok' over same past = absurd (cc)
granted_at true true (Some page) none a b c d ok' over same past = absurd (cc)
granted_at true true None none a b c d ok' over same past = ap (λ t. cond (not t) a (cond over c d)) same ∙ ap (λ t. cond t c d) past

allocate_granted : (o : Objects) (p page count rights : ℕ) (s : Space) → allocate_refusal s page count rights ≡ None → memory_allocate_row o p page count rights (Some s) ≡ (Done, with_pages o p (with_run s page count rights))
allocate_granted o p page count rights s none =
    granted_at (is_run page count && nat_lt rights 8) (nat_le (len s + count) 1024) (first_held s page count) none (BadAddress, o) (Exists, o) (NoRoom, o) _ _ _ (fair page count rights) (not_le (len s + count))

-- What a refused allocation answers, where memory isn't wanting.
abbrev allocate_reply : PageError → Reply
allocate_reply (Overlap page) = Exists
allocate_reply Full = NoRoom
allocate_reply _ = BadAddress

refused_at : (o : Objects) (ok fits : Bool) (held : Option ℕ) (e : PageError) → cond ok (option_or (option_map Overlap held) (cond fits None (Some Full))) (Some Range) ≡ Some e → (d : Reply × Objects) (ok' over : Bool) → ok' ≡ ok → over ≡ not fits → cond (not ok') (BadAddress, o) (cond (is_some held) (Exists, o) (cond over (NoRoom, o) d)) ≡ (allocate_reply e, o)
refused_at o false fits held e some d ok' over same past =
    let is : Range ≡ e = cc in
    ap (λ t. cond (not t) (BadAddress, o) (cond (is_some held) (Exists, o) (cond over (NoRoom, o) d))) same ∙ ap (λ r. (allocate_reply r, o)) is
refused_at o true fits (Some page) e some d ok' over same past =
    let is : Overlap page ≡ e = cc in
    ap (λ t. cond (not t) (BadAddress, o) (Exists, o)) same ∙ ap (λ r. (allocate_reply r, o)) is
refused_at o true true None e some d ok' over same past = absurd (cc)
refused_at o true false None e some d ok' over same past =
    let is : Full ≡ e = cc in
    ap (λ t. cond (not t) (BadAddress, o) (cond over (NoRoom, o) d)) same ∙ ap (λ t. cond t (NoRoom, o) d) past ∙ ap (λ r. (allocate_reply r, o)) is

allocate_answer : (o : Objects) (p page count rights : ℕ) (s : Space) (e : PageError) → allocate_refusal s page count rights ≡ Some e → memory_allocate_row o p page count rights (Some s) ≡ (allocate_reply e, o)
allocate_answer o p page count rights s e some =
    refused_at o (is_run page count && nat_lt rights 8) (nat_le (len s + count) 1024) (first_held s page count) e some _ _ _ (fair page count rights) (not_le (len s + count))

-- The error tells the refusal, except want of memory.
told_refusal : (refusal : Option PageError) (e : PageError) → e ≡ unwrap_or refusal NoMemory → (e ≡ NoMemory → ⊥) → refusal ≡ Some e
told_refusal None e is other = absurd (other is)
told_refusal (Some r) e is other = ap Some (sym is)

refused_row : (o o1 o2 : Objects) (p page count rights : ℕ) (s s' : Space) (error : PageError) → Took o p o1 s → o2 ≡ with_pages o1 p s' → s' ≡ s → error ≡ unwrap_or (allocate_refusal s page count rights) NoMemory → (error ≡ NoMemory → ⊥) → IsNoHandle (allocate_reply error) → Row o (MemoryAllocate p page count rights) (allocate_reply error) o2
refused_row o o1 o2 p page count rights s s' error took e same is other new =
    row_refused o o1 o2 p s s' (MemoryAllocate p page count rights) (allocate_reply error) took e same new (
    ap (memory_allocate_row o p page count rights) (took_runs o o1 p s took) ∙ allocate_answer o p page count rights s error (told_refusal _ error is other))

pub allocate_refused : (o o1 o2 : Objects) (p page count rights : ℕ) (s s' : Space) (error : PageError) (r : Result Reply Memory) → r ≡ allocate_result error → Took o p o1 s → o2 ≡ with_pages o1 p s' → s' ≡ s → error ≡ unwrap_or (allocate_refusal s page count rights) NoMemory → IfOk r (λ reply. Row o (MemoryAllocate p page count rights) reply o2)
allocate_refused o o1 o2 p page count rights s s' error r result took e same is =
    subst (λ t. IfOk t (λ reply. Row o (MemoryAllocate p page count rights) reply o2)) (sym result) (at_error error is)
  where
    at_error : (error : PageError) → error ≡ unwrap_or (allocate_refusal s page count rights) NoMemory → IfOk (allocate_result error) (λ reply. Row o (MemoryAllocate p page count rights) reply o2)
    at_error (Overlap q) is = refused_row o o1 o2 p page count rights s s' (Overlap q) took e same is (λ h. cc) tt
    at_error Full is = refused_row o o1 o2 p page count rights s s' Full took e same is (λ h. cc) tt
    at_error NoMemory is = tt
    at_error other is = refused_row o o1 o2 p page count rights s s' other took e same is (λ h. cc) tt

pub allocate_done : (o o1 o2 : Objects) (p page count rights : ℕ) (s s' : Space) → Took o p o1 s → o2 ≡ with_pages o1 p s' → s' ≡ with_run s page count rights → allocate_refusal s page count rights ≡ None → Row o (MemoryAllocate p page count rights) Done o2
allocate_done o o1 o2 p page count rights s s' took e run none =
    row_changed o o1 o2 p s s' (MemoryAllocate p page count rights) took e (
    ap (memory_allocate_row o p page count rights) (took_runs o o1 p s took) ∙ allocate_granted o p page count rights s none
    ∙ ap (λ m. (Done, with_pages o p m)) (sym run))

-- what stands anyway
pub on_err : {T E P : Type 0} (r : Result T E) → P → OnErr r P
on_err (Ok x) stands = tt
on_err (Err e) stands = stands

-- ---- MemoryProtect
-- pages that are all there make a run that a process may have
held_frame : (s : Space) (q : ℕ) (x : Option Frame) → get s q ≡ x → cond (is_some x) None (Some q) ≡ None → (frame : Frame) × (get s q ≡ Some frame)
held_frame s q None is held = absurd (cc)
held_frame s q (Some frame) is held = (frame, is)

held_within : (s : Space) (page count q : ℕ) → IsSpace s → first_missing s page count ≡ None → page ≤ q → q < page + count → (1 ≤ q) × (q < 2 ^ 26)
held_within s page count q sound none low high =
    let held = held_frame s q (get s q) refl (first_some_none_at (if_missing s) page count q none low high) in
    let frame = sound.frames q held.0 held.1 in
    (frame.above, frame.below)

held_run : (s : Space) (page count : ℕ) → IsSpace s → first_missing s page count ≡ None → 1 ≤ count → is_run page count ≡ true
held_run s page count sound none some =
    let first : (1 ≤ page) × (page < 2 ^ 26) = held_within s page count page sound none (omega arith) (omega arith) in
    let last : (1 ≤ page + count - 1) × (page + count - 1 < 2 ^ 26) = held_within s page count (page + count - 1) sound none (omega arith) (omega arith) in
    and_from _ _ (and_from _ _ (lt-ltb 0 page (omega arith)) (lt-ltb 0 count (omega arith))) (le-leb (page + count) (2 ^ 26) (omega arith))

reprotected_at : (some ok : Bool) (missing : Option ℕ) (over : Bool) → cond ok (option_map Unmapped missing) (Some Range) ≡ None → (ok ≡ true → some ≡ false) → (ok ≡ true → over ≡ false) → (some || (is_some missing || over)) ≡ false
reprotected_at some false missing over none has fits = absurd (cc)
reprotected_at some true (Some page) over none has fits = absurd (cc)
reprotected_at some true None over none has fits = ap (λ b. b || over) (has refl) ∙ fits refl

protect_granted : (o : Objects) (p page count rights : ℕ) (s : Space) → protect_refusal s page count rights ≡ None → memory_protect_row o p page count rights (Some s) ≡ (Done, with_pages o p (protected s page count rights))
protect_granted o p page count rights s none =
    cond-false _ _ _ (reprotected_at (count == 0) (is_run page count && nat_lt rights 8) (first_missing s page count) (nat_lt 7 rights) none
    (λ ok. let parts = and_parts (is_run page count) (nat_lt rights 8) ok in let run = and_parts (nat_lt 0 page && nat_lt 0 count) (nat_le (page + count) (2 ^ 26)) parts.0 in let some : nat_lt 0 count ≡ true = (and_parts (nat_lt 0 page) (nat_lt 0 count) run.0).1 in grind (arith, nat_tests))
    (λ ok. let parts = and_parts (is_run page count) (nat_lt rights 8) ok in let few : nat_lt rights 8 ≡ true = parts.1 in grind (arith, nat_tests)))

refused_test : (s : Space) (page count rights : ℕ) (e : PageError) → IsSpace s → (missing : Option ℕ) → first_missing s page count ≡ missing → cond (is_run page count && nat_lt rights 8) (option_map Unmapped missing) (Some Range) ≡ Some e → (count == 0 || (is_some missing || nat_lt 7 rights)) ≡ true
refused_test s page count rights e sound (Some q) is some = elim (count == 0) as (λ b. (b || true) ≡ true) [ true ↦ refl | false ↦ refl ]
refused_test s page count rights e sound None is some =
    elim (count == 0) as (λ b. (count == 0) ≡ b → (b || nat_lt 7 rights) ≡ true) [
      | true ↦ λ zero. refl
      | false ↦ λ more. elim (nat_lt 7 rights) as (λ b. nat_lt 7 rights ≡ b → b ≡ true) [
        | true ↦ λ _. refl
        | false ↦ λ few.
            let one : 1 ≤ count = grind (arith, nat_tests) in
            let run : is_run page count ≡ true = held_run s page count sound is one in
            let small : nat_lt rights 8 ≡ true = grind (arith, nat_tests) in
            let ok : (is_run page count && nat_lt rights 8) ≡ true = and_from _ _ run small in
            let none : cond {A = Option PageError} (is_run page count && nat_lt rights 8) None (Some Range) ≡ None = cond-true _ _ _ ok in
            absurd (cc)
      ] refl
    ] refl

protect_answer : (o : Objects) (p page count rights : ℕ) (s : Space) (e : PageError) → IsSpace s → protect_refusal s page count rights ≡ Some e → memory_protect_row o p page count rights (Some s) ≡ (BadAddress, o)
protect_answer o p page count rights s e sound some = cond-true _ _ _ (refused_test s page count rights e sound (first_missing s page count) refl some)

pub protect_done : (o o1 o2 : Objects) (p page count rights : ℕ) (s s' : Space) → Took o p o1 s → o2 ≡ with_pages o1 p s' → s' ≡ protected s page count rights → protect_refusal s page count rights ≡ None → Row o (MemoryProtect p page count rights) Done o2
protect_done o o1 o2 p page count rights s s' took e run none =
    row_changed o o1 o2 p s s' (MemoryProtect p page count rights) took e (
    ap (memory_protect_row o p page count rights) (took_runs o o1 p s took) ∙ protect_granted o p page count rights s none
    ∙ ap (λ m. (Done, with_pages o p m)) (sym run))

pub protect_refused : (o o1 o2 : Objects) (p page count rights : ℕ) (s s' : Space) (error : PageError) → Took o p o1 s → o2 ≡ with_pages o1 p s' → s' ≡ s → IsSpace s → protect_refusal s page count rights ≡ Some error → Row o (MemoryProtect p page count rights) BadAddress o2
protect_refused o o1 o2 p page count rights s s' error took e same sound some =
    row_refused o o1 o2 p s s' (MemoryProtect p page count rights) BadAddress took e same tt (
    ap (memory_protect_row o p page count rights) (took_runs o o1 p s took) ∙ protect_answer o p page count rights s error sound some)

-- ---- MemoryFree
freed_at : (none ok : Bool) (missing : Option ℕ) → cond ok (option_map Unmapped missing) (Some Range) ≡ None → (ok ≡ true → none ≡ false) → (none || is_some missing) ≡ false
freed_at none false missing is has = absurd (cc)
freed_at none true (Some page) is has = absurd (cc)
freed_at none true None is has = ap (λ b. b || false) (has refl)

free_granted : (o : Objects) (p page count : ℕ) (s : Space) → free_refusal s page count ≡ None → memory_free_row o p page count (Some s) ≡ (Done, with_pages o p (without_run s page count))
free_granted o p page count s none =
    cond-false _ _ _ (freed_at (count == 0) (is_run page count) (first_missing s page count) none
    (λ ok. let run = and_parts (nat_lt 0 page && nat_lt 0 count) (nat_le (page + count) (2 ^ 26)) ok in let some : nat_lt 0 count ≡ true = (and_parts (nat_lt 0 page) (nat_lt 0 count) run.0).1 in grind (arith, nat_tests)))

free_test : (s : Space) (page count : ℕ) (e : PageError) → IsSpace s → (missing : Option ℕ) → first_missing s page count ≡ missing → cond (is_run page count) (option_map Unmapped missing) (Some Range) ≡ Some e → (count == 0 || is_some missing) ≡ true
free_test s page count e sound (Some q) is some = elim (count == 0) as (λ b. (b || true) ≡ true) [ true ↦ refl | false ↦ refl ]
free_test s page count e sound None is some =
    elim (count == 0) as (λ b. (count == 0) ≡ b → (b || false) ≡ true) [
      | true ↦ λ zero. refl
      | false ↦ λ more.
          let one : 1 ≤ count = grind (arith, nat_tests) in
          let run : is_run page count ≡ true = held_run s page count sound is one in
          let none : cond {A = Option PageError} (is_run page count) None (Some Range) ≡ None = cond-true _ _ _ run in
          absurd (cc)
    ] refl

pub free_done : (o o1 o2 : Objects) (p page count : ℕ) (s s' : Space) → Took o p o1 s → o2 ≡ with_pages o1 p s' → s' ≡ without_run s page count → free_refusal s page count ≡ None → Row o (MemoryFree p page count) Done o2
free_done o o1 o2 p page count s s' took e run none =
    row_changed o o1 o2 p s s' (MemoryFree p page count) took e (
    ap (memory_free_row o p page count) (took_runs o o1 p s took) ∙ free_granted o p page count s none
    ∙ ap (λ m. (Done, with_pages o p m)) (sym run))

pub free_refused : (o o1 o2 : Objects) (p page count : ℕ) (s s' : Space) (error : PageError) → Took o p o1 s → o2 ≡ with_pages o1 p s' → s' ≡ s → IsSpace s → free_refusal s page count ≡ Some error → Row o (MemoryFree p page count) BadAddress o2
free_refused o o1 o2 p page count s s' error took e same sound some =
    row_refused o o1 o2 p s s' (MemoryFree p page count) BadAddress took e same tt (
    ap (memory_free_row o p page count) (took_runs o o1 p s took)
    ∙ cond-true _ _ _ (free_test s page count error sound (first_missing s page count) refl some))

-- ---- MemoryWrite
pub write_done : (o o1 o2 : Objects) (p address : ℕ) (bytes : List ℕ) (s s' : Space) → Took o p o1 s → o2 ≡ with_pages o1 p s' → length bytes ≤ 65536 → s' ≡ with_memory s (with_bytes (memory_of s) address bytes) → first_fault (memory_of s) 2 address (length bytes) ≡ None → Row o (MemoryWrite p address bytes) Done o2
write_done o o1 o2 p address bytes s s' took e few after none =
    row_changed o o1 o2 p s s' (MemoryWrite p address bytes) took e (
    ap (memory_write_row o p address bytes) (took_runs o o1 p s took)
    ∙ cond-false _ _ _ (le-ltb 65536 (length bytes) few)
    ∙ ap (λ f. unless_fault o f (Done, with_pages o p (with_memory s (with_bytes (memory_of s) address bytes)))) none
    ∙ ap (λ m. (Done, with_pages o p m)) (sym after))

access_denied : (o : Objects) (fault : AccessFault) (granted : Reply × Objects) → unless_fault o (Some fault) granted ≡ (access_reply fault, o)
access_denied o Missing granted = refl
access_denied o Forbidden granted = refl

no_handle_access : (fault : AccessFault) → IsNoHandle (access_reply fault)
no_handle_access Missing = tt
no_handle_access Forbidden = tt

pub write_refused : (o o1 o2 : Objects) (p address : ℕ) (bytes : List ℕ) (s s' : Space) (fault : AccessFault) (reply : Reply) → reply ≡ access_reply fault → Took o p o1 s → o2 ≡ with_pages o1 p s' → length bytes ≤ 65536 → s' ≡ s → first_fault (memory_of s) 2 address (length bytes) ≡ Some fault → Row o (MemoryWrite p address bytes) reply o2
write_refused o o1 o2 p address bytes s s' fault reply is took e few same some =
    subst (λ r. Row o (MemoryWrite p address bytes) r o2) (sym is)
    (row_refused o o1 o2 p s s' (MemoryWrite p address bytes) (access_reply fault) took e same (no_handle_access fault) (
    ap (memory_write_row o p address bytes) (took_runs o o1 p s took)
    ∙ cond-false _ _ _ (le-ltb 65536 (length bytes) few)
    ∙ ap (λ f. unless_fault o f (Done, with_pages o p (with_memory s (with_bytes (memory_of s) address bytes)))) some
    ∙ access_denied o fault _))

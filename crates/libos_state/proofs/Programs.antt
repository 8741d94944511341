-- The program that a start keeps, and the extents of its runs, which rise.
use Rattle.std.specs.Prelude.{◌≡◌, ℕ, zero, suc, ◌+◌, ◌-◌, ◌*◌, ◌%◌, ◌/◌, ◌^◌, ◌≤◌, ◌<◌, ◌==◌, Bool, true, false, cond, is_some, List, [], ◌∷◌, length, take}
use Rattle.std.specs.Int.{bit_at}
use Rattle.std.specs.List.{AllByRecursion, sum_by}
use Rattle.std.specs.Ordering.{nat_cmp}
use Rattle.std.specs.Option.{option_map}
use Rattle.std.specs.FinMap.{empty, len, len-empty}
use Rattle.std.specs.declared.option.Option.{Option}
use Rattle.std.specs.declared.option.Option.TheVariants.{None, Some}
use Rattle.std.proofs.Common.{get_or, refl, sym, ap, subst, ◌∙◌, arith, ltb-true, leb-true, eqb-true}
use Rattle.std.proofs.Math.ListN.{get_or-map}
use Rattle.std.proofs.lemmas.Bool.{and_parts, and_right}
use Rattle.std.proofs.lemmas.List.{length-map}
use Rattle.std.proofs.lemmas.List.Sums.{sum_by-cons, sum_by_more_le}
use Rattle.std.proofs.lemmas.Nat.Bits.{bit_at-zero}
use Rattle.std.proofs.lemmas.Option.{none-some}
use Rattle.guest_space.specs.declared.Extent.{Extent}
use Rattle.guest_space.specs.Space.{Space, Frame, in_run, with_run}
use Rattle.guest_space.specs.Regions.{AreMaximal, extent_end, extent_rights}
use Rattle.guest_space.proofs.Filling.{page_rights-with_run, is_held-rights, len-with_run, len-same_rights}
use Rattle.guest_space.proofs.Regions.{AreFrom-before, extent_rights_before, extent_rights_behind}
use Rattle.bas_items.proofs.NumberMaps.{get-empty}
use Rattle.elf_loader.specs.declared.Run.{Run}
use Rattle.elf_loader.specs.Fields.{e_entry, e_phnum, program_header}
use Rattle.elf_loader.specs.Segments.{is_touched, page_rights as rights_in_file, touches, segment_rights}
use Rattle.elf_loader.specs.Refusal.{refusal, is_runnable}
use Rattle.elf_loader.specs.Image.{AreWhole, FitsProcess, IsRunOfProcess, extent_of, layout_of, page_count, program_of, without_bytes}
use Rattle.elf_loader.proofs.Below.{any_below-at, union_below-has}
use Rattle.elf_loader.proofs.ImageLaws.{AreWhole-with_bytes, FitsProcess-accepted, IsLayout-layout_of, without_bytes-program_of}
use Rattle.elf_loader.proofs.Refusals.{program_refusal-entry, program_refusal-parts, refusal-parts}
use Rattle.libos_program.specs.Runs.{no_run}
use Rattle.libos_program.proofs.Each.{each_at}
use Rattle.libos_state.specs.declared.cont.Cont.{Cont}
use Rattle.libos_state.specs.Pending.{number, program_in, runs_in, run_in}
use Rattle.libos_state.specs.Fits.{HasPages, KeepsProgram, KeepsRun, extents_in, extents_before}

-- ---- extents that rise

-- An extent has pages, and ends at the latest where one behind it begins.
some_at : (es : List Extent) (k : ℕ) (d : Extent) → AreMaximal es → k < length es → 1 ≤ (get_or es k d).count
some_at [] k d rising within = absurd (omega arith)
some_at (e ∷ es) zero d rising within = rising.0
some_at (e ∷ es) (suc k) d rising within = some_at es k d rising.2 (omega arith)

ends_before : (e : Extent) (es : List Extent) (k : ℕ) (d : Extent) → AreMaximal (e ∷ es) → k < length es → extent_end e ≤ (get_or es k d).page
ends_before e [] k d rising within = absurd (omega arith)
ends_before e (next ∷ es) zero d rising within = rising.1.0
ends_before e (next ∷ es) (suc k) d rising within =
    let first = rising.1.0 in
    let rest = ends_before next es k d rising.2 (omega arith) in
    omega arith

-- Those before one have no page from its first on.
free_from : (es : List Extent) (k : ℕ) (d : Extent) (q : ℕ) → AreMaximal es → k < length es → (get_or es k d).page ≤ q → extent_rights (take k es) q ≡ None
free_from [] k d q rising within from = absurd (omega arith)
free_from (e ∷ es) zero d q rising within from = refl
free_from (e ∷ es) (suc k) d q rising within from =
    let ends = ends_before e es k d rising (omega arith) in
    extent_rights_behind e (take k es) q (omega arith) ∙ free_from es k d q rising.2 (omega arith) from

in_turn : (a b : Bool) (x y : ℕ) (o : Option ℕ) → (a ≡ true → b ≡ true → ⊥) → cond a (Some x) (cond b (Some y) o) ≡ cond b (Some y) (cond a (Some x) o)
in_turn true true x y o apart = absurd (apart refl refl)
in_turn true false x y o apart = refl
in_turn false b x y o apart = refl

low_in : (page count q : ℕ) → in_run page count q ≡ true → (page ≤ q) × (q < page + count)
low_in page count q is = let parts = and_parts _ _ is in (leb-true page q parts.0, ltb-true q (page + count) parts.1)

-- One more extent gives its pages its rights.
one_more : (es : List Extent) (k : ℕ) (d : Extent) (q : ℕ) → AreMaximal es → k < length es → extent_rights (take (suc k) es) q ≡ extent_rights (get_or es k d ∷ take k es) q
one_more [] k d q rising within = absurd (omega arith)
one_more (e ∷ es) zero d q rising within = refl
one_more (e ∷ es) (suc k) d q rising within =
    let x = get_or es k d in
    let ends = ends_before e es k d rising (omega arith) in
    ap (cond (in_run e.page e.count q) (Some e.rights)) (one_more es k d q rising.2 (omega arith))
    ∙ in_turn (in_run e.page e.count q) (in_run x.page x.count q) e.rights x.rights (extent_rights (take k es) q)
    (λ here there. let low = low_in x.page x.count q there in let high = low_in e.page e.count q here in let first = low.0 in let last = high.1 in omega arith)

AreMaximal-take : (k : ℕ) (es : List Extent) → AreMaximal es → AreMaximal (take k es)
AreMaximal-take zero es rising = tt
AreMaximal-take (suc k) [] rising = tt
AreMaximal-take (suc zero) (e ∷ es) rising = (rising.0, tt, tt)
AreMaximal-take (suc (suc k)) (e ∷ []) rising = rising
AreMaximal-take (suc (suc k)) (e ∷ next ∷ es) rising = (rising.0, rising.1, AreMaximal-take (suc k) (next ∷ es) rising.2)

-- Where all end below a page, none has it.
pub none_from : (es : List Extent) → AllByRecursion IsRunOfProcess es → (q : ℕ) → 2 ^ 26 - 16 ≤ q → extent_rights es q ≡ None
none_from [] all q high = refl
none_from (e ∷ es) all q high = let first = all.0.below in extent_rights_behind e es q (omega arith) ∙ none_from es all.1 q high

-- ---- how many pages there are

-- A space of these pages.
space_with : List Extent → Space
space_with [] = empty
space_with (e ∷ es) = with_run (space_with es) e.page e.count e.rights

rights_there : (es : List Extent) → HasPages (space_with es) es
unfolding space_with
rights_there [] q = ap (λ (x : Option Frame). option_map (λ (f : Frame). f.rights) x) (get-empty q)
rights_there (e ∷ es) q = page_rights-with_run (space_with es) e.page e.count e.rights q ∙ ap (cond (in_run e.page e.count q) (Some e.rights)) (rights_there es q)

len-space_with : (es : List Extent) → AreMaximal es → len (space_with es) ≡ sum_by (λ e. e.count) es
unfolding space_with
len-space_with [] rising = len-empty nat_cmp Frame
len-space_with (e ∷ es) rising =
    len-with_run (space_with es) e.page e.count e.rights
    (λ q low high. is_held-rights (space_with es) q
    ∙ ap is_some (rights_there es q ∙ extent_rights_before (extent_end e) es q rising.2 (AreFrom-before e es rising.1) high))
    ∙ ap (λ n. n + e.count) (len-space_with es rising.2)
    ∙ omega (arith, sum_by-cons (λ (x : Extent). x.count) e es)

pub len_of : (s : Space) (es : List Extent) → HasPages s es → AreMaximal es → len s ≡ sum_by (λ e. e.count) es
len_of s es has rising =
    len-same_rights s (space_with es) (λ q. ap is_some (has q ∙ sym (rights_there es q))) ∙ len-space_with es rising

-- ---- the program

-- A file that isn't refused has an entry in a page that can be run, so it has a page.
entry_runs : (file : List ℕ) → refusal file ≡ None → is_runnable file (e_entry file) ≡ true
entry_runs file none =
    let parts = refusal-parts file none in
    let few = (program_refusal-parts file parts.2).0 in
    elim (is_runnable file (e_entry file)) as (λ b. is_runnable file (e_entry file) ≡ b → b ≡ true) [
      | true ↦ λ _. refl
      | false ↦ λ is. absurd (none-some _ (sym parts.2 ∙ program_refusal-entry file few (sym (and_right (e_entry file % 4 == 0) (is_runnable file (e_entry file)) is))))
    ] refl

touching : (touched : Bool) (rights : ℕ) → bit_at (cond touched rights 0) 2 ≡ 1 → touched ≡ true
touching true rights is = refl
touching false rights is = absurd (omega (arith, bit_at-zero 2))

entry_touched : (file : List ℕ) → refusal file ≡ None → is_touched file (e_entry file / 4096) ≡ true
unfolding is_touched rights_in_file
entry_touched file none =
    let page = e_entry file / 4096 in
    let value : ℕ → ℕ = λ i. cond (touches (program_header file i) page) (segment_rights (program_header file i)) 0 in
    let found = union_below-has value 2 (e_phnum file) (eqb-true _ 1 (entry_runs file none)) in
    any_below-at (λ i. touches (program_header file i) page) (e_phnum file) found.0 found.1 (touching _ _ found.2)

some_of : (es : List Extent) (q : ℕ) (rights : ℕ) → extent_rights es q ≡ Some rights → 1 ≤ length es
some_of [] q rights is = absurd (none-some _ is)
some_of (e ∷ es) q rights is = omega arith

pub some_runs : (file : List ℕ) → refusal file ≡ None → 1 ≤ length (program_of file).runs
some_runs file none =
    let page = e_entry file / 4096 in
    let there = IsLayout-layout_of file in
    let some = some_of (layout_of file).runs page (rights_in_file file page)
    (there.rights page ∙ ap (λ b. cond b (Some (rights_in_file file page)) None) (entry_touched file none)) in
    let same = ap (λ l. length l.runs) (without_bytes-program_of file) in
    let long = length-map (program_of file).runs extent_of in
    omega arith

pub program_fits : (c : Cont) → KeepsProgram c → FitsProcess (without_bytes (program_in c))
program_fits c kept = subst FitsProcess (sym (without_bytes-program_of c.bytes)) (FitsProcess-accepted c.bytes kept)

fewer : (es : List Extent) → AreMaximal es → length es ≤ sum_by (λ e. e.count) es
fewer [] rising = omega arith
fewer (e ∷ es) rising = let rest = fewer es rising.2 in let first = rising.0 in omega (arith, sum_by-cons (λ (x : Extent). x.count) e es)

-- A program has no more runs than pages.
pub few_runs : (c : Cont) → KeepsProgram c → length (runs_in c) ≤ 1008
few_runs c kept =
    let fits = program_fits c kept in
    let few = fits.few in
    let pages = fewer (extents_in c) fits.rising in
    let long = length-map (runs_in c) extent_of in
    omega arith

whole_runs : (file : List ℕ) → AreWhole (program_of file).runs
unfolding program_of
whole_runs file = AreWhole-with_bytes file (layout_of file)

-- The run that is loaded: its size, and how it lies behind those before it.
pub record LiesBehind (c : Cont) : Type 0 where
  pub some : 1 ≤ page_count (run_in c)
  pub above : 1 ≤ (run_in c).page
  pub below : (run_in c).page + page_count (run_in c) ≤ 2 ^ 26 - 16
  pub rights : (run_in c).rights < 8
  pub whole : length (run_in c).bytes ≡ 4096 * page_count (run_in c)
  pub rising : AreMaximal (extents_before c)
  pub free : (q : ℕ) → (run_in c).page ≤ q → extent_rights (extents_before c) q ≡ None
  pub room : sum_by (λ e. e.count) (extents_before c) + page_count (run_in c) ≤ 1008
  pub more : (q : ℕ) → extent_rights (take (number c 0 + 1) (extents_in c)) q ≡ extent_rights (extent_of (run_in c) ∷ extents_before c) q

pub run_extent : (c : Cont) → get_or (extents_in c) (number c 0) (extent_of no_run) ≡ extent_of (run_in c)
run_extent c = get_or-map extent_of (runs_in c) (number c 0) no_run

pub lies_behind : (c : Cont) → KeepsRun c → LiesBehind c
lies_behind c kept =
    let k = number c 0 in
    let d = extent_of no_run in
    let fits = program_fits c kept.program in
    let within : k < length (extents_in c) = let long = length-map (runs_in c) extent_of in let among = kept.among in omega arith in
    let is = run_extent c in
    let process : IsRunOfProcess (extent_of (run_in c)) = subst IsRunOfProcess is (each_at IsRunOfProcess (extents_in c) k d fits.runs within) in
    record {
      some = subst (λ e. 1 ≤ e.count) is (some_at (extents_in c) k d fits.rising within);
      above = process.above;
      below = process.below;
      rights = process.rights;
      whole = each_at (λ (run : Run). length run.bytes ≡ 4096 * page_count run) (runs_in c) k no_run (whole_runs c.bytes) kept.among;
      rising = AreMaximal-take k (extents_in c) fits.rising;
      free = λ q low. free_from (extents_in c) k d q fits.rising within (subst (λ e. e.page ≤ q) (sym is) low);
      room = let more = sum_by_more_le (λ (e : Extent). e.count) (extents_in c) k d within in let few = fits.few in let count = ap (λ (e : Extent). e.count) is in omega arith;
      more = λ q. (let e : k + 1 ≡ suc k = omega arith in ap (λ n. extent_rights (take n (extents_in c)) q) e)
          ∙ one_more (extents_in c) k d q fits.rising within
          ∙ ap (λ e. extent_rights (e ∷ extents_before c) q) is;
    }

-- The streams that end with a process: those of the descriptions that it alone has open, each once.
use Rattle.std.specs.Prelude.{◌≡◌, ℕ, ◌+◌, ◌==◌, Bool, true, false, not, cond, ◌&&◌, ◌||◌, if◌then◌else◌, ◌≤◌, List, [], ◌∷◌, ◌++◌, map, filter, find, count_by}
use Rattle.std.specs.List.{list_all, list_any, cons_option}
use Rattle.std.specs.Option.{option_map}
use Rattle.std.specs.declared.option.Option.{Option}
use Rattle.std.specs.declared.option.Option.TheVariants.{None, Some}
use Rattle.std.proofs.Common.{refl, sym, ap, ◌∙◌, arith, eq-eqb, eqb-true}
use Rattle.std.proofs.lemmas.Bool.{and_parts, and_from, both_ways, not-true}
use Rattle.std.proofs.lemmas.List.{map-id, append-nil}
use Rattle.std.proofs.lemmas.List.Elements.{filter-append}
use Rattle.turn_sched.specs.Lists.{contains, without}
use Rattle.libos_state.specs.declared.notes.Description.{Description}
use Rattle.libos_state.specs.declared.notes.DescriptorNote.{DescriptorNote}
use Rattle.libos_state.specs.declared.notes.ProcessNote.{ProcessNote}
use Rattle.libos_state.specs.declared.state.LibOs.{LibOs}
use Rattle.libos_state.specs.Records.{process_named, description_named}
use Rattle.libos_state.specs.Entered.{descriptors_in, each_once, is_open_without, names_description, opened_alone, streams_behind}
use Rattle.libos_state.specs.Fits.{are_distinct, is_described}
use Rattle.libos_state.proofs.Distinct.{some_of, contains-map, find-key, list_any-found, are_distinct-filter}
use Rattle.libos_state.proofs.Filtered.{count_by-distinct}
use Rattle.libos_state.proofs.Keyed.{find-there, count_by-never}
use Rattle.libos_state.proofs.Naming.{count_by-cons, eqb-flipped, find-passes, list_all-find}

-- ---- ids that stand once each

and_false : (b : Bool) → (b && false) ≡ false
and_false true = refl
and_false false = refl

absorbed : (a b : Bool) → (a || (b && not a)) ≡ (a || b)
absorbed true b = refl
absorbed false true = refl
absorbed false false = refl

contains-filter : (keeps : ℕ → Bool) (ids : List ℕ) (id : ℕ) → contains (filter keeps ids) id ≡ (contains ids id && keeps id)
contains-filter keeps [] id = refl
contains-filter keeps (x ∷ ids) id =
    let rest = contains-filter keeps ids id in
    elim (x == id) as (λ b. (x == id) ≡ b → contains (filter keeps (x ∷ ids)) id ≡ ((b || contains ids id) && keeps id)) [
      | true ↦ λ same.
          let kept : keeps x ≡ keeps id = ap keeps (eqb-true x id same) in
          elim (keeps x) as (λ b. b ≡ keeps id → contains (cond b (x ∷ filter keeps ids) (filter keeps ids)) id ≡ keeps id) [
            | true ↦ λ is. ap (λ b. b || contains (filter keeps ids) id) same ∙ is
            | false ↦ λ is. rest ∙ ap (λ b. contains ids id && b) (sym is) ∙ and_false (contains ids id) ∙ is
          ] kept
      | false ↦ λ other. elim (keeps x) as (λ b. contains (cond b (x ∷ filter keeps ids) (filter keeps ids)) id ≡ (contains ids id && keeps id)) [
        | true ↦ ap (λ b. b || contains (filter keeps ids) id) other ∙ rest
        | false ↦ rest
      ]
    ] refl

are_distinct-kept : (keeps : ℕ → Bool) (ids : List ℕ) → are_distinct ids ≡ true → are_distinct (filter keeps ids) ≡ true
are_distinct-kept keeps ids distinct =
    ap are_distinct (sym (map-id (filter keeps ids))) ∙ are_distinct-filter (λ (id : ℕ). id) keeps ids (ap are_distinct (map-id ids) ∙ distinct)

contains-without : (ids : List ℕ) (id : ℕ) → contains (without ids id) id ≡ false
contains-without ids id =
    contains-filter (λ x. not (x == id)) ids id ∙ ap (λ b. contains ids id && not b) (eq-eqb id id refl) ∙ and_false (contains ids id)

pub are_distinct-each_once : (ids : List ℕ) → are_distinct (each_once ids) ≡ true
are_distinct-each_once [] = refl
are_distinct-each_once (id ∷ ids) =
    and_from _ _ (ap not (contains-without (each_once ids) id)) (are_distinct-kept (λ x. not (x == id)) (each_once ids) (are_distinct-each_once ids))

pub contains-each_once : (ids : List ℕ) (id : ℕ) → contains (each_once ids) id ≡ contains ids id
contains-each_once [] id = refl
contains-each_once (x ∷ ids) id =
    ap (λ b. (x == id) || b) (contains-filter (λ y. not (y == x)) (each_once ids) id ∙ ap (λ b. b && not (id == x)) (contains-each_once ids id))
    ∙ ap (λ b. (x == id) || (contains ids id && not b)) (eqb-flipped id x)
    ∙ absorbed (x == id) (contains ids id)

-- The last id is another one, or stands there already.
pub each_once-push : (ids : List ℕ) (id : ℕ) → each_once (ids ++ id ∷ []) ≡ (if contains ids id then each_once ids else each_once ids ++ id ∷ [])
each_once-push [] id = refl
each_once-push (x ∷ ids) id =
    ap (λ xs. x ∷ without xs x) (each_once-push ids id)
    ∙ elim (x == id) as (λ b. (x == id) ≡ b → x ∷ without (if contains ids id then each_once ids else each_once ids ++ id ∷ []) x
    ≡ (if b || contains ids id then x ∷ without (each_once ids) x else x ∷ without (each_once ids) x ++ id ∷ [])) [
      | true ↦ λ same. elim (contains ids id) as (λ b. x ∷ without (if b then each_once ids else each_once ids ++ id ∷ []) x ≡ x ∷ without (each_once ids) x) [
        | true ↦ refl
        | false ↦ ap (λ xs. x ∷ xs) (filter-append (λ y. not (y == x)) (each_once ids) (id ∷ [])
            ∙ ap (λ b. without (each_once ids) x ++ cond (not b) (id ∷ []) []) (sym (eqb-flipped x id) ∙ same) ∙ append-nil (without (each_once ids) x))
      ]
      | false ↦ λ other. elim (contains ids id) as (λ b. x ∷ without (if b then each_once ids else each_once ids ++ id ∷ []) x
          ≡ (if b then x ∷ without (each_once ids) x else x ∷ without (each_once ids) x ++ id ∷ [])) [
            | true ↦ refl
            | false ↦ ap (λ xs. x ∷ xs) (filter-append (λ y. not (y == x)) (each_once ids) (id ∷ [])
                ∙ ap (λ b. without (each_once ids) x ++ cond (not b) (id ∷ []) []) (sym (eqb-flipped x id) ∙ other))
          ]
    ] refl

-- ---- the streams behind ids

module _ {X : Type 0} where
  count_by-both : (p q : X → Bool) (xs : List X) → count_by (λ x. p x && q x) xs ≤ count_by p xs
  count_by-both p q [] = omega arith
  count_by-both p q (x ∷ xs) =
      omega (arith, count_by-cons (λ y. p y && q y) x xs, count_by-cons p x xs, count_by-both p q xs, both_most (p x) (q x))
    where
      both_most : (a b : Bool) → cond (a && b) 1 0 ≤ cond a 1 0
      both_most true true = omega arith
      both_most true false = omega arith
      both_most false b = omega arith

  count_by-where : (ok p q : X → Bool) → ((x : X) → ok x ≡ true → p x ≡ q x) → (xs : List X) → list_all ok xs ≡ true → count_by p xs ≡ count_by q xs
  count_by-where ok p q same [] all = refl
  count_by-where ok p q same (x ∷ xs) all =
      let parts = and_parts (ok x) (list_all ok xs) all in
      count_by-cons p x xs
      ∙ (λ i. cond (same x parts.0 i) 1 0 + count_by-where ok p q same xs parts.1 i)
      ∙ sym (count_by-cons q x xs)

abbrev hits : ℕ → Option Description → ℕ
hits q None = 0
hits q (Some d) = cond (d.handle == q) 1 0

hits-cons : (q : ℕ) (x : Option Description) (hs : List ℕ) → count_by (λ h. h == q) (cons_option (option_map (λ d. d.handle) x) hs) ≡ hits q x + count_by (λ h. h == q) hs
hits-cons q None hs = omega arith
hits-cons q (Some d) hs = count_by-cons (λ h. h == q) d.handle hs

-- Of different ids one description has it at most.
hits-named : (q id : ℕ) (ds : List Description) → are_distinct (map (λ d. d.id) ds) ≡ true → count_by (λ d. d.id == id && d.handle == q) ds ≡ hits q (description_named id ds)
hits-named q id [] distinct = refl
hits-named q id (d ∷ ds) distinct =
    let parts = and_parts (not (contains (map (λ (e : Description). e.id) ds) d.id)) (are_distinct (map (λ (e : Description). e.id) ds)) distinct in
    let few = count_by-distinct (λ (e : Description). e.id) (d ∷ ds) id distinct in
    let both = count_by-both (λ (e : Description). e.id == id) (λ e. e.handle == q) ds in
    count_by-cons (λ (e : Description). e.id == id && e.handle == q) d ds
    ∙ elim (d.id == id) as (λ b. count_by (λ (e : Description). e.id == id) (d ∷ ds) ≡ cond b 1 0 + count_by (λ (e : Description). e.id == id) ds
    → cond (b && d.handle == q) 1 0 + count_by (λ (e : Description). e.id == id && e.handle == q) ds ≡ hits q (cond b (Some d) (description_named id ds))) [
      | true ↦ λ sum. omega (arith, sum, few, both)
      | false ↦ λ _. omega (arith, hits-named q id ds parts.1)
    ] (count_by-cons (λ (e : Description). e.id == id) d ds)

parted : (a b t : Bool) → (a ≡ true → b ≡ false) → cond {A = ℕ} ((a || b) && t) 1 0 ≡ cond (a && t) 1 0 + cond (b && t) 1 0
parted true true t so = absurd (let e = so refl in cc)
parted true false true so = refl
parted true false false so = refl
parted false b t so = omega arith

-- Those of an id, and those of others.
count_by-contains_cons : (t : Description → Bool) (id : ℕ) (ids : List ℕ) (ds : List Description) → contains ids id ≡ false
    → count_by (λ d. contains (id ∷ ids) d.id && t d) ds ≡ count_by (λ d. d.id == id && t d) ds + count_by (λ d. contains ids d.id && t d) ds
count_by-contains_cons t id ids [] apart = refl
count_by-contains_cons t id ids (d ∷ ds) apart = omega (
  arith,
  count_by-cons (λ (e : Description). contains (id ∷ ids) e.id && t e) d ds,
  count_by-cons (λ (e : Description). e.id == id && t e) d ds,
  count_by-cons (λ (e : Description). contains ids e.id && t e) d ds,
  count_by-contains_cons t id ids ds apart,
  parted (id == d.id) (contains ids d.id) (t d) (λ same. ap (contains ids) (sym (eqb-true id d.id same)) ∙ apart),
  ap (λ b. cond {A = ℕ} (b && t d) 1 0) (eqb-flipped id d.id),
)

-- A handle stands among the streams as often as a description of the ids has it.
pub count_by-streams_behind : (q : ℕ) (ds : List Description) (ids : List ℕ) → are_distinct (map (λ d. d.id) ds) ≡ true → are_distinct ids ≡ true
    → count_by (λ h. h == q) (streams_behind ds ids) ≡ count_by (λ d. contains ids d.id && d.handle == q) ds
count_by-streams_behind q ds [] named distinct = sym (count_by-never (λ (d : Description). contains [] d.id && d.handle == q) ds (λ d. refl))
count_by-streams_behind q ds (id ∷ ids) named distinct =
    let parts = and_parts (not (contains ids id)) (are_distinct ids) distinct in
    omega (
      arith,
      hits-cons q (description_named id ds) (streams_behind ds ids),
      hits-named q id ds named,
      count_by-contains_cons (λ d. d.handle == q) id ids ds (not-true _ parts.0),
      count_by-streams_behind q ds ids named parts.1,
    )

-- What the handles of all descriptions pass.
pub list_all-streams_behind : (ok : ℕ → Bool) (ds : List Description) (ids : List ℕ) → list_all (λ d. ok d.handle) ds ≡ true → list_all ok (streams_behind ds ids) ≡ true
list_all-streams_behind ok ds [] all = refl
list_all-streams_behind ok ds (id ∷ ids) all = elim (description_named id ds) as (λ x. description_named id ds ≡ x → list_all ok (cons_option (option_map (λ d. d.handle) x) (streams_behind ds ids)) ≡ true) [
  | None ↦ λ _. list_all-streams_behind ok ds ids all
  | Some d ↦ λ found. and_from (ok d.handle) (list_all ok (streams_behind ds ids))
      (list_all-find (λ (e : Description). ok e.handle) (λ e. e.id == id) ds d all found) (list_all-streams_behind ok ds ids all)
] refl

-- ---- what a process alone has open

module _ (os : LibOs) (p : ℕ) (process : ProcessNote) (pids : are_distinct (map (λ n. n.pid) os.processes) ≡ true) (there : process_named p os.processes ≡ Some process) where
  abbrev names : ℕ → ProcessNote → Bool
  names id n = list_any (λ d. d.description == id) n.descriptors

  abbrev alone : ℕ → Bool
  alone id = not (is_open_without os p id)

  abbrev ids : List ℕ
  ids = map (λ d. d.description) process.descriptors

  -- A description is open, and in no other process: this one has it.
  named_here : (id : ℕ) → is_described os id ≡ true → is_open_without os p id ≡ false → names id process ≡ true
  named_here id some none =
      let n = some_of (find (names id) os.processes) (find-there (names id) os.processes some) in
      let passes : names id n.0 ≡ true = find-passes (names id) os.processes n.0 n.1 in
      let of_it : (n.0.pid == p) ≡ true = elim (n.0.pid == p) as (λ b. (n.0.pid == p) ≡ b → b ≡ true) [
        | true ↦ λ _. refl
        | false ↦ λ other. absurd (both_ways (is_open_without os p id) none
            (list_any-found (λ (m : ProcessNote). m.pid) (names id) (names_description p id) os.processes n.0 n.1 (and_from _ _ (ap not other) passes)))
      ] refl in
      let two : Some n.0 ≡ Some process =
      sym (find-key (λ (m : ProcessNote). m.pid) (names id) os.processes n.0 pids n.1) ∙ ap (λ k. process_named k os.processes) (eqb-true n.0.pid p of_it) ∙ there in
      let same : process ≡ n.0 = cc in
      ap (names id) same ∙ passes

  opened_alone_is : opened_alone os p ≡ filter alone (each_once ids)
  opened_alone_is = ap (λ x. filter alone (each_once (map (λ d. d.description) (descriptors_in x)))) there

  pub contains-opened_alone : (id : ℕ) → is_described os id ≡ true → contains (opened_alone os p) id ≡ alone id
  contains-opened_alone id described =
      ap (λ xs. contains xs id) opened_alone_is ∙ contains-filter alone (each_once ids) id
      ∙ ap (λ b. b && alone id) (contains-each_once ids id ∙ contains-map (λ (d : DescriptorNote). d.description) process.descriptors id)
      ∙ elim (is_open_without os p id) as (λ b. is_open_without os p id ≡ b → (names id process && not b) ≡ not b) [
        | true ↦ λ _. and_false (names id process)
        | false ↦ λ none. ap (λ b. b && true) (named_here id described none)
      ] refl

  pub are_distinct-opened_alone : are_distinct (opened_alone os p) ≡ true
  are_distinct-opened_alone = ap are_distinct opened_alone_is ∙ are_distinct-kept alone (each_once ids) (are_distinct-each_once ids)

  -- The streams are those of all descriptions that no other process has open.
  pub count_by-opened_alone : (q : ℕ) → are_distinct (map (λ d. d.id) os.descriptions) ≡ true → list_all (λ d. is_described os d.id) os.descriptions ≡ true
      → count_by (λ h. h == q) (streams_behind os.descriptions (opened_alone os p)) ≡ count_by (λ d. alone d.id && d.handle == q) os.descriptions
  count_by-opened_alone q named described =
      count_by-streams_behind q os.descriptions (opened_alone os p) named are_distinct-opened_alone
      ∙ count_by-where (λ (d : Description). is_described os d.id) (λ d. contains (opened_alone os p) d.id && d.handle == q) (λ d. alone d.id && d.handle == q)
      (λ d is. ap (λ b. b && d.handle == q) (contains-opened_alone d.id is)) os.descriptions described

-- Bytes that are given and taken piece by piece.
use Rattle.std.proofs.Common.{◌≡◌, ℕ, ◌+◌, ◌-◌, ◌<◌, ◌≤◌, List, [], ◌++◌, length, take, drop, refl, sym, ◌∙◌, ap, subst, append_assoc, arith, length-append}
use Rattle.std.proofs.lemmas.List.{append-nil, take-append-drop, drop-drop, take_all, length-take-le, take_at}
use Rattle.std.proofs.Math.Seq.{take-add}
use Rattle.std.proofs.Math.ListN.{drop_of_length-le}
use Rattle.std.specs.Prelude.{IfSome}
use Rattle.std.specs.declared.option.Option.{Option}
use Rattle.std.specs.declared.option.Option.TheVariants.{None, Some}
use Rattle.bas_edge.specs.Streams.{Gives, Takes}
use Rattle.abi_calls.specs.Failing.{IsPartWritten, IsPartTaken, with_text, without_front}
use Rattle.host_monitor.specs.Edges.{TakesAsked}

-- A front of the bytes was given, and this is what stands behind it.
pub record GivesUpTo (given : Option (List ℕ)) (bytes rest : List ℕ) (given' : Option (List ℕ)) : Type 0 where
  pub put : ℕ
  pub behind : rest ≡ drop put bytes
  pub grown : given' ≡ with_text given (take put bytes)

pub with_text-nothing : (given : Option (List ℕ)) → given ≡ with_text given []
with_text-nothing None = refl
with_text-nothing (Some old) = ap Some (sym (append-nil old))

pub with_text-twice : (given : Option (List ℕ)) (a b : List ℕ) → with_text (with_text given a) b ≡ with_text given (a ++ b)
with_text-twice None a b = refl
with_text-twice (Some old) a b = ap Some (append_assoc old a b)

pub gives_nothing : (given : Option (List ℕ)) (bytes : List ℕ) → GivesUpTo given bytes bytes given
gives_nothing given bytes = record { put = 0; behind = refl; grown = with_text-nothing given }

pub gives_more : {given given' given'' : Option (List ℕ)} {bytes rest : List ℕ} {n : ℕ} → GivesUpTo given bytes rest given' → Gives given' rest n given'' → GivesUpTo given bytes (drop n rest) given''
gives_more {given} {given'} {given''} {bytes} {rest} {n} f g = record {
  put = f.put + n;
  behind = ap (drop n) f.behind ∙ drop-drop n f.put bytes;
  grown =
      g.grown ∙ ap (λ x. with_text x (take n rest)) f.grown ∙ with_text-twice given (take f.put bytes) (take n rest)
      ∙ ap (λ r. with_text given (take f.put bytes ++ take n r)) f.behind ∙ ap (with_text given) (sym (take-add f.put n bytes));
}

pub gives_part : {given given' : Option (List ℕ)} {bytes rest : List ℕ} → GivesUpTo given bytes rest given' → IsPartWritten given given' (with_text given bytes)
gives_part {given} {given'} {bytes} {rest} f = record {
  written = take f.put bytes;
  is = f.grown;
  missing = drop f.put bytes;
  then = ap (with_text given) (sym (take-append-drop f.put bytes)) ∙ sym (with_text-twice given (take f.put bytes) (drop f.put bytes)) ∙ ap (λ t. with_text t (drop f.put bytes)) (sym f.grown);
}

-- A give that failed added nothing.
pub gives_part_still : {given given' given'' : Option (List ℕ)} {bytes rest : List ℕ} → GivesUpTo given bytes rest given' → given'' ≡ given' → IsPartWritten given given'' (with_text given bytes)
gives_part_still {given} {given'} {given''} {bytes} {rest} f e = subst (λ g. IsPartWritten given g (with_text given bytes)) (sym e) (gives_part f)

pub gives_all : {given given' : Option (List ℕ)} {bytes rest : List ℕ} → GivesUpTo given bytes rest given' → rest ≡ [] → given' ≡ with_text given bytes
gives_all {given} {given'} {bytes} {rest} f e =
    f.grown ∙ ap (with_text given) (sym (append-nil (take f.put bytes)) ∙ ap (λ r. take f.put bytes ++ r) (sym e ∙ f.behind) ∙ take-append-drop f.put bytes)

pub without_front-nothing : (left : Option (List ℕ)) → left ≡ without_front left 0
without_front-nothing None = refl
without_front-nothing (Some old) = refl

pub without_front-twice : (left : Option (List ℕ)) (m n : ℕ) → without_front (without_front left m) n ≡ without_front left (m + n)
without_front-twice None m n = refl
without_front-twice (Some old) m n = ap Some (drop-drop n m old)

-- These bytes, at most so many, were the front of what was left, and what stood behind them is left.
pub record TakesUpTo (left : Option (List ℕ)) (count : ℕ) (bytes : List ℕ) (left' : Option (List ℕ)) : Type 0 where
  pub within : length bytes ≤ count
  pub front : IfSome left (λ old. old ≡ bytes ++ drop (length bytes) old)
  pub rest : left' ≡ without_front left (length bytes)

pub takes_nothing : (left : Option (List ℕ)) (count : ℕ) → TakesUpTo left count [] left
takes_nothing None count = record { within = omega arith; front = tt; rest = refl }
takes_nothing (Some old) count = record { within = omega arith; front = refl; rest = refl }

-- What was taken before, and behind it the front of what was left then.
two_fronts : (bytes next : List ℕ) (n : ℕ) (old mid : List ℕ) → length next ≡ n → old ≡ bytes ++ drop (length bytes) old → mid ≡ drop (length bytes) old
    → mid ≡ next ++ drop n mid → old ≡ (bytes ++ next) ++ drop (length (bytes ++ next)) old
two_fronts bytes next n old mid l e d f =
    let k : length bytes + n ≡ length (bytes ++ next) = omega (arith, length-append bytes next) in
    e ∙ ap (λ r. bytes ++ r) (sym d ∙ f ∙ ap (λ m. next ++ drop n m) d ∙ ap (λ r. next ++ r) (drop-drop n (length bytes) old ∙ ap (λ j. drop j old) k))
    ∙ sym (append_assoc bytes next (drop (length (bytes ++ next)) old))

-- A further piece was taken, and the bytes are its front.
pub takes_more : {left left' left'' : Option (List ℕ)} {bytes buffer buffer' : List ℕ} {count n : ℕ} → TakesUpTo left count bytes left' → Takes left' buffer n left'' buffer' → length buffer' ≡ length buffer
    → length bytes + length buffer ≤ count → TakesUpTo left count (bytes ++ take n buffer') left''
takes_more {left = None} {left'} {left''} {bytes} {buffer} {buffer'} {count} {n} f t l room =
    let within : n ≤ length buffer' = omega (arith, t.within) in
    let size : length (take n buffer') ≡ n = length-take-le n buffer' within in
    record {
      within = omega (arith, length-append bytes (take n buffer'), t.within);
      front = tt;
      rest = t.rest ∙ ap (λ x. without_front x n) f.rest;
    }
takes_more {left = Some old} {left'} {left''} {bytes} {buffer} {buffer'} {count} {n} f t l room =
    let within : n ≤ length buffer' = omega (arith, t.within) in
    let size : length (take n buffer') ≡ n = length-take-le n buffer' within in
    let told : IfSome (Some (drop (length bytes) old)) (λ mid. mid ≡ take n buffer' ++ drop n mid) =
    let P : Option (List ℕ) → Type 0 = λ x. IfSome x (λ mid. mid ≡ take n buffer' ++ drop n mid) in subst P f.rest t.front in
    let both : length bytes + n ≡ length (bytes ++ take n buffer') = omega (arith, length-append bytes (take n buffer')) in
    record {
      within = omega (arith, t.within);
      front = two_fronts bytes (take n buffer') n old (drop (length bytes) old) size f.front refl told;
      rest = t.rest ∙ ap (λ x. without_front x n) f.rest ∙ ap (λ m. Some m) (drop-drop n (length bytes) old) ∙ ap (λ j. Some (drop j old)) both;
    }

-- So many bytes were taken of those that were asked.
part_taken : {left left' : Option (List ℕ)} {count : ℕ} (taken : ℕ) → taken ≤ count → left' ≡ without_front left taken → IsPartTaken left left' (without_front left count)
part_taken {left} {left'} {count} taken within e = record {
  taken = taken;
  is = e;
  missing = count - taken;
  then =
      let sum : count ≡ taken + (count - taken) = omega (arith, within) in
      ap (without_front left) sum ∙ sym (without_front-twice left taken (count - taken)) ∙ ap (λ l. without_front l (count - taken)) (sym e);
}

pub takes_part : {left left' : Option (List ℕ)} {bytes : List ℕ} {count : ℕ} → TakesUpTo left count bytes left' → IsPartTaken left left' (without_front left count)
takes_part {left} {left'} {bytes} {count} f = part_taken (length bytes) f.within f.rest

-- All that was asked.
pub takes_whole : {left left' : Option (List ℕ)} {bytes : List ℕ} {count : ℕ} → TakesUpTo left count bytes left' → count ≤ length bytes → TakesAsked left count bytes left'
takes_whole {left = None} {left'} {bytes} {count} f e = record { within = f.within; front = tt; rest = f.rest }
takes_whole {left = Some old} {left'} {bytes} {count} f e =
    let size : length bytes ≡ count = omega (arith, f.within) in
    record {
      within = f.within;
      front = sym (ap (take count) f.front ∙ take_at bytes (drop (length bytes) old) count size);
      rest = f.rest ∙ ap (λ j. Some (drop j old)) size;
    }

-- Nothing is left behind what was taken.
none_left : (bytes old : List ℕ) (count : ℕ) → old ≡ bytes ++ drop (length bytes) old → drop (length bytes) old ≡ [] → length bytes ≤ count → (bytes ≡ take count old) × (drop (length bytes) old ≡ drop count old)
none_left bytes old count e d within =
    let same : old ≡ bytes = e ∙ ap (λ r. bytes ++ r) d ∙ append-nil bytes in
    let short : length old ≤ count = omega (arith, ap length same) in
    (sym same ∙ sym (take_all count old short), d ∙ sym (drop_of_length-le old short))

-- All that was left.
pub takes_rest : {left left' left'' : Option (List ℕ)} {bytes buffer buffer' : List ℕ} {count n : ℕ} → TakesUpTo left count bytes left' → Takes left' buffer n left'' buffer' → n ≡ 0 → 0 < length buffer
    → TakesAsked left count bytes left''
takes_rest {left = None} {left'} {left''} {bytes} {buffer} {buffer'} {count} {n} f t e room = record { within = f.within; front = tt; rest = t.rest ∙ ap (λ x. without_front x n) f.rest }
takes_rest {left = Some old} {left'} {left''} {bytes} {buffer} {buffer'} {count} {n} f t e room =
    let told : IfSome (Some (drop (length bytes) old)) (λ mid. mid ≡ []) =
    let P : Option (List ℕ) → Type 0 = λ x. IfSome x (λ mid. mid ≡ []) in subst P f.rest (t.ended room e) in
    let both : (bytes ≡ take count old) × (drop (length bytes) old ≡ drop count old) = none_left bytes old count f.front told f.within in
    record {
      within = f.within;
      front = both.0;
      rest = t.rest ∙ ap (λ k. without_front left' k) e ∙ sym (without_front-nothing left') ∙ f.rest ∙ ap (λ m. Some m) both.1;
    }

pub takes_none_part : {left left' left'' : Option (List ℕ)} {bytes buffer buffer' : List ℕ} {count n : ℕ} → TakesUpTo left count bytes left' → Takes left' buffer n left'' buffer' → n ≡ 0 → IsPartTaken left left'' (without_front left count)
takes_none_part {left} {left'} {left''} {bytes} {buffer} {buffer'} {count} {n} f t e =
    part_taken (length bytes) f.within (t.rest ∙ ap (λ k. without_front left' k) e ∙ sym (without_front-nothing left') ∙ f.rest)

-- Where a loop over pieces stands: what it did so far, and that no fault was counted.
pub record Stands (done : Type 0) (before now : ℕ) : Type 0 where
  pub work : done
  pub unfaulted : now ≡ before

pub ruleset giving = (gives_nothing, gives_more, gives_part, gives_part_still, gives_all)

pub ruleset taking = (takes_nothing, takes_more, takes_part, takes_whole, takes_rest, takes_none_part)

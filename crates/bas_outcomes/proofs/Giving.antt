-- A text that is given piece by piece.
use Rattle.std.proofs.Common.{◌≡◌, ℕ, ◌+◌, List, [], ◌++◌, take, drop, refl, sym, ◌∙◌, ap, subst, append_assoc}
use Rattle.std.proofs.lemmas.List.{append-nil, take-append-drop, drop-drop}
use Rattle.std.proofs.Math.Seq.{take-add}
use Rattle.std.specs.Prelude.{Result, OnErr, Ok, Err}
use Rattle.std.specs.declared.option.Option.{Option}
use Rattle.std.specs.declared.option.Option.TheVariants.{None, Some}
use Rattle.bas_edge.specs.Streams.{Gives, gained}
use Rattle.bas_outcomes.specs.Notes.{GainsPart}

-- Of the text this is left, and what stands before it was given; no fault was counted so far.
pub record GivesUpTo (given : Option (List ℕ)) (text rest : List ℕ) (given' : Option (List ℕ)) (before now : ℕ) : Type 0 where
  pub put : ℕ
  pub behind : rest ≡ drop put text
  pub grown : given' ≡ gained given (take put text)
  pub unfaulted : now ≡ before

pub gained_nothing : (given : Option (List ℕ)) → given ≡ gained given []
gained_nothing None = refl
gained_nothing (Some old) = ap Some (sym (append-nil old))

pub gained_twice : (given : Option (List ℕ)) (a b : List ℕ) → gained (gained given a) b ≡ gained given (a ++ b)
gained_twice None a b = refl
gained_twice (Some old) a b = ap Some (append_assoc old a b)

pub gives_nothing : (given : Option (List ℕ)) (text : List ℕ) (faults : ℕ) → GivesUpTo given text text given faults faults
gives_nothing given text faults = record { put = 0; behind = refl; grown = gained_nothing given; unfaulted = refl }

pub gives_more : {given given' given'' : Option (List ℕ)} {text rest : List ℕ} {n before now later : ℕ} → GivesUpTo given text rest given' before now → Gives given' rest n given'' → later ≡ now
    → GivesUpTo given text (drop n rest) given'' before later
gives_more {given} {given'} {given''} {text} {rest} {n} f g e = record {
  put = f.put + n;
  behind = ap (drop n) f.behind ∙ drop-drop n f.put text;
  grown =
      g.grown ∙ ap (λ x. gained x (take n rest)) f.grown ∙ gained_twice given (take f.put text) (take n rest)
      ∙ ap (λ r. gained given (take f.put text ++ take n r)) f.behind ∙ ap (gained given) (sym (take-add f.put n text));
  unfaulted = e ∙ f.unfaulted;
}

-- A give that failed added nothing.
pub gives_part : {given given' given'' : Option (List ℕ)} {text rest : List ℕ} {before now : ℕ} → GivesUpTo given text rest given' before now → given'' ≡ given' → GainsPart given text given''
gives_part {given} {given'} {given''} {text} f e = record {
  part = take f.put text;
  rest = drop f.put text;
  whole = sym (take-append-drop f.put text);
  grown = e ∙ f.grown;
}

pub gives_all : {given given' : Option (List ℕ)} {text rest : List ℕ} {before now : ℕ} → GivesUpTo given text rest given' before now → rest ≡ [] → given' ≡ gained given text
gives_all {given} {given'} {text} {rest} f e =
    f.grown ∙ ap (gained given) (sym (append-nil (take f.put text)) ∙ ap (λ r. take f.put text ++ r) (sym e ∙ f.behind) ∙ take-append-drop f.put text)

-- Of a text of which nothing was given a first part was given.
pub part_none : (given : Option (List ℕ)) (text : List ℕ) → GainsPart given text given
part_none given text = record { part = []; rest = text; whole = refl; grown = gained_nothing given }

pub on_err : {T E : Type 0} (r : Result T E) (P : Type 0) → P → OnErr r P
on_err (Ok x) P p = tt
on_err (Err e) P p = p

pub ruleset giving = (gives_nothing, gives_more, gives_part, gives_all)

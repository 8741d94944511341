use Rattle.std.proofs.Common.{rules, ◌≡◌, ◌≤◌, length, subst, arith, inl, inr}
use Rattle.std.proofs.lemmas.Bool.{cases_lt}
use Rattle.guest_memory.specs.Hints.{IsNoted}
use Rattle.guest_memory.proofs.Hints.{AreKept-set, AreNoted-set}
use Rattle.guest_memory.proofs.place.note_places.Goals as goal

pub loop-place-preserved : goal.loop-place-preserved
loop-place-preserved c =
    let here = c.loop-place.place in
    let pages = c.args.pages.now in
    let before = c.loop-place.invariant in
    record {
      full = search rules;
      none = λ h. omega arith;
      noted = AreNoted-set pages c.loop-place.table c.args.from here c.slot.result _ c.slot.ensures c.loop-place-test.true before.full before.noted;
      kept = AreKept-set pages c.args.table.now c.loop-place.table c.args.from here c.slot.result _ _ c.slot.ensures c.loop-place.auto.place before.kept;
    }

pub returns : goal.returns
returns c =
    let end = length c.args.pages.now in
    let done = c.loop-place.invariant in
    record {
      noted = λ place d low high.
          let within : c.loop-place.place ≤ end = c.loop-place.auto.place-end (omega arith) in
          let e : c.loop-place.place ≡ end = omega arith in
          subst (λ n. IsNoted c.args.pages.now c.loop-place.table n place d) e (done.noted place d low (omega arith));
      kept = λ slot none. done.kept slot (λ place d low high.
          elim (cases_lt end c.args.from) [
            | inl past ↦ let still = done.none (omega arith) in absurd (omega arith)
            | inr short ↦ let within = c.loop-place.auto.place-end short in none place d low (omega arith)
          ]);
    }

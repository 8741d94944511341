-- The hints after one more page is noted.
use Rattle.std.proofs.Common.{◌≡◌, ℕ, ◌+◌, ◌%◌, ◌<◌, ◌≤◌, List, length, set, sym, ap, ◌∙◌, arith, inl, inr}
use Rattle.std.proofs.lemmas.Bool.{cases_eq}
use Rattle.std.proofs.lemmas.List.{get_or-set_other, get_or_default}
use Rattle.std.proofs.lemmas.Grind.{get_or-set_at}
use Rattle.guest_memory.specs.declared.page.Page.{Page}
use Rattle.guest_memory.specs.Hints.{slot_of, slot_at, AreKept, AreNoted}

pub AreNoted-set : (pages : List Page) (hints : List ℕ) (from end slot : ℕ) (p : Page)
    → slot ≡ slot_at pages end p → end < length pages → length hints ≡ 1024 → AreNoted pages hints from end
    → AreNoted pages (set hints slot (end % 65536)) from (end + 1)
AreNoted-set pages hints from end slot p at within full noted place d low high =
    let last : slot ≡ slot_at pages end d = at ∙ ap (λ q. slot_of q.number) (get_or_default pages end p d within) in
    let inside : slot_at pages place d < 1024 = omega arith in
    elim (cases_eq (slot_at pages place d) slot) [
      | inl e ↦ record {
        last = end;
        from_there = omega arith;
        within = omega arith;
        same = sym last ∙ sym e;
        hint = get_or-set_at hints slot (slot_at pages place d) (end % 65536) 0 e (omega arith);
      }
      | inr ne ↦
          let before : place < end = elim (cases_eq place end) [
            | inl same ↦ absurd (ne (ap (λ k. slot_at pages k d) same ∙ sym last))
            | inr other ↦ omega arith
          ] in
          let old = noted place d low before in
          record {
            last = old.last;
            from_there = old.from_there;
            within = omega (arith, old.within);
            same = old.same;
            hint = get_or-set_other hints slot (slot_at pages place d) (end % 65536) 0 ne ∙ old.hint;
          }
    ]

pub AreKept-set : (pages : List Page) (before hints : List ℕ) (from end slot : ℕ) (p : Page) (hint : ℕ)
    → slot ≡ slot_at pages end p → from ≤ end → AreKept pages before hints from end
    → AreKept pages before (set hints slot hint) from (end + 1)
AreKept-set pages before hints from end slot p hint at low kept other none =
    get_or-set_other hints slot other hint 0 (λ e. none end p low (omega arith) (sym at ∙ sym e))
    ∙ kept other (λ place d above below. none place d above (omega arith))

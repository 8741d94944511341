use Rattle.std.proofs.Common.{◌≡◌, ◌≤◌, true, false, None, ap, sym, ◌∙◌, ⊎_elim, arith, below_more, Result, Ok, Err, MatchResult}
use Rattle.std.specs.Result.{is_err}
use Rattle.std.proofs.lemmas.Bool.{cases_Bool, both_ways, leb-true}
use Rattle.elf_loader.specs.declared.ElfError.{ElfError}
use Rattle.elf_loader.specs.Fields.{program_header}
use Rattle.elf_loader.specs.Segments.{is_segment, memory_end}
use Rattle.elf_loader.specs.Refusal.{lone_refusal}
use Rattle.elf_loader.proofs.Apart.{meets_earlier-none, meets-above, meets-no_segment, meets-other_no_segment}
use Rattle.elf_loader.proofs.file.ElfFile.placed.Goals as goal
use Rattle.elf_loader.proofs.file.ElfFile.placed.Goals.{then-is_segment, then-rising, else-rising, else-is_segment}

accepted : {P : Type 0} (r : Result (Unit {0}) ElfError) (Q : ElfError → Type 0) → MatchResult r (λ _. P) Q → is_err r ≡ false → P
accepted (Ok done) Q h e = h
accepted (Err error) Q h e = cc

pub loop-i-preserved : goal.loop-i-preserved
loop-i-preserved c =
    let file = c.args.self.now.bytes.now in
    let i = c.loop-i.i in
    let h = program_header file i in
    let lone : lone_refusal file i ≡ None = accepted c.check_header.result _ c.check_header.ensures (sym c.is_err.ensures.value ∙ c.if-is_err.false) in
    let end : memory_end c.header-header.result ≡ memory_end h = ap (λ x. memory_end x) c.header-header.ensures in
    elim c.if-is_segment.branch [
      | then-is_segment w ↦ elim w.if-rising.branch [
        | then-rising w' ↦
            let start : c.header-header.result.p_vaddr ≡ h.p_vaddr = ap (λ x. x.p_vaddr) c.header-header.ensures in
            let above : c.if-is_segment.rising ≡ true → c.loop-i.end ≤ h.p_vaddr =
            λ up. let over = leb-true c.loop-i.end w'.from.result (sym w'.rising-is ∙ (sym w.rising-is ∙ up)) in omega (arith, over, w'.from.ensures, start) in
            record {
              placed = below_more _ _ c.loop-i.invariant.placed lone;
              ends = λ up. below_more _ _
                  (λ j below segment. let old = c.loop-i.invariant.ends w'.if-rising.true j below segment in let over = above up in omega (arith, old, over, end, w.memory_end-end.ensures.value, w.end-is))
                  (λ segment. omega (arith, end, w.memory_end-end.ensures.value, w.end-is));
              apart = λ up. below_more _ _ (c.loop-i.invariant.apart w'.if-rising.true)
                  (meets_earlier-none file i
                  (λ j earlier.
                  ⊎_elim
                  (λ (segment : is_segment (program_header file j) ≡ true).
                  let old = c.loop-i.invariant.ends w'.if-rising.true j earlier segment in let over = above up in meets-above file i j (omega (arith, old, over)))
                  (λ (none : is_segment (program_header file j) ≡ false). meets-other_no_segment file i j none)
                  (cases_Bool (is_segment (program_header file j)))));
            }
        | else-rising w' ↦
            let down : c.if-is_segment.rising ≡ false = w.rising-is ∙ (w'.rising-is ∙ w'.if-rising.false) in
            record {
              placed = below_more _ _ c.loop-i.invariant.placed lone;
              ends = λ up. absurd (both_ways _ down up);
              apart = λ up. absurd (both_ways _ down up);
            }
      ]
      | else-is_segment w ↦
          let none : is_segment h ≡ false = ap (λ x. is_segment x) (sym c.header-header.ensures) ∙ (sym c.is_segment.ensures ∙ w.if-is_segment.false) in
          record {
            placed = below_more _ _ c.loop-i.invariant.placed lone;
            ends = λ up. below_more _ _
                (λ j below segment. let old = c.loop-i.invariant.ends (sym w.rising-is ∙ up) j below segment in omega (arith, old, w.end-is))
                (λ segment. absurd (both_ways _ none segment));
            apart = λ up. below_more _ _ (c.loop-i.invariant.apart (sym w.rising-is ∙ up)) (meets_earlier-none file i (λ j earlier. meets-no_segment file i j none));
          }
    ]

use Rattle.std.proofs.Common.{sym, ap, subst, ◌∙◌, ◌+◌, ◌-◌, ◌%◌, ◌<◌, ◌≤◌, length, take, drop, List, ℕ, arith}
use Rattle.std.proofs.lemmas.List.{length-take}
use Rattle.std.proofs.lemmas.List.Elements.{All-from_get_or, All-take, All-drop}
use Rattle.std.specs.List.{All}
use Rattle.guest_space.specs.Space.{memory_of}
use Rattle.guest_space.specs.Access.{with_bytes}
use Rattle.guest_space.proofs.Bytes.{with_bytes-nil}
use Rattle.guest_memory.specs.Pages.{AreInOrder, space_of}
use Rattle.guest_memory.proofs.Copies.{AreInOrder-part, memory_of-part, with_bytes-absent, written_part-more}
use Rattle.guest_memory.proofs.access.copy_in.Goals as goal
use Rattle.guest_memory.proofs.access.copy_in.Goals.{in-Some, in_default}

pub loop-done-init : goal.loop-done-init
loop-done-init c = record { within = omega arith; order = c.requires.order; written = sym (with_bytes-nil (memory_of (space_of c.args.pages.now)) c.args.at) }

pub loop-done-preserved : goal.loop-done-preserved
loop-done-preserved c =
    let old = c.loop-done.pages in
    let done = c.loop-done.done in
    let n = c.min-count.result in
    let least = c.min-count.ensures in
    let part : List ℕ = take (done + n - done) (drop done c.args.bytes.now) in
    let fits : done + n ≤ length c.args.bytes.now = omega arith in
    let small : (c.args.at + done) % 4096 + length part ≤ 4096 = omega (arith, length-take (done + n - done) (drop done c.args.bytes.now)) in
    let all : All (λ byte. byte < 256) c.args.bytes.now = All-from_get_or (λ byte. byte < 256) c.args.bytes.now 0 (λ k h. let fits = c.type_inv.bytes k in omega arith) in
    let bytes : All (λ byte. byte < 256) part = All-take (λ byte. byte < 256) (done + n - done) (drop done c.args.bytes.now) (All-drop (λ byte. byte < 256) done c.args.bytes.now all) in
    let more = ap (λ m. with_bytes m (c.args.at + done) part) c.loop-done.invariant.written
    ∙ written_part-more (memory_of (space_of c.args.pages.now)) c.args.at done n c.args.bytes.now fits in
    elim c.match-find.branch [
      | in-Some w ↦ record {
        within = fits;
        order = subst AreInOrder (sym w.pages-is) (AreInOrder-part old _ w.in-Some.place _ part _ w.put_part.new.page c.loop-done.invariant.order w.in-Some.ensures small bytes w.put_part.ensures);
        written = ap (λ ps. memory_of (space_of ps)) w.pages-is
            ∙ memory_of-part old (c.args.at + done) w.in-Some.place part _ w.put_part.new.page c.loop-done.invariant.order w.in-Some.ensures small w.put_part.ensures
            ∙ more;
      }
      | in_default w ↦ record {
        within = fits;
        order = subst AreInOrder (sym w.pages-is) c.loop-done.invariant.order;
        written = ap (λ ps. memory_of (space_of ps)) w.pages-is ∙ with_bytes-absent (space_of old) (c.args.at + done) part w.in_default.ensures small ∙ more;
      }
    ]

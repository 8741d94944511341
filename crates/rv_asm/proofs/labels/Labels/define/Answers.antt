use Rattle.std.proofs.Common.{◌≡◌, ◌∙◌, ap, cond, subst, Some, None, rules}
use Rattle.std.proofs.lemmas.Map.Text.{btree_map_updates_str}
use Rattle.std.specs.Str.{bytes_eq}
use Rattle.rv_asm.specs.Labels.{defined, otherwise}
use Rattle.rv_asm.proofs.LabelLists.{update-absent}
use Rattle.rv_asm.proofs.labels.Labels.define.Goals as goal

pub returns-in_ok-insert : goal.returns-in_ok-insert
returns-in_ok-insert c =
    let key = c.as_slice.result.now in
    let old = defined c.args.self.now in
    let absent : old c.args.name.now ≡ None = search rules in
    λ other. subst
    (λ name. defined (record { definitions = c.insert.new.self }) other
    ≡ otherwise (old other) (cond (bytes_eq name other) (Some c.args.definition) None))
    c.as_slice.ensures
    (btree_map_updates_str key c.args.self.now.definitions c.insert.new.self (Some c.args.definition) c.in_ok-insert.ensures.updates other
    ∙ update-absent old key (Some c.args.definition) other (ap old c.as_slice.ensures ∙ absent))

use Rattle.std.proofs.Common.{◌≡◌, sym, ap, ◌∙◌, refl}
use Rattle.std.specs.Prelude.{Some}
use Rattle.std.proofs.lemmas.Slice.Eq.{bytes_eq-Decides}
use Rattle.bas_edge.proofs.FilesIn.{with_renamed-same, renamed-takes, renamed-sets, renamed-ends}
use Rattle.bas_edge.proofs.calm_store.CalmStoreStore.rename.Goals as goal

pub returns-then-eq-clause-renamed : goal.returns-then-eq-clause-renamed
returns-then-eq-clause-renamed c =
    let same : c.args.from.now ≡ c.args.to.now = (bytes_eq-Decides _ _).0 (sym c.eq.ensures ∙ c.if-eq.true) in
    ap Some (sym (with_renamed-same c.args.self.now c.args.from.now c.args.to.now same (c.requires c.args.self.now refl)))

pub take-bytes-requires : goal.take-bytes-requires
take-bytes-requires c =
    renamed-takes _ _ _ _ _ _ (sym c.eq.ensures ∙ c.if-eq.false) (c.requires c.args.self.now refl) c.in_ok-name.ensures.items c.in_ok-put.ensures.ok

pub set-requires : goal.set-requires
set-requires c =
    renamed-sets _ _ _ _ _ _ (sym c.eq.ensures ∙ c.if-eq.false) (c.requires c.args.self.now refl) c.in_ok-name.ensures.items c.in_ok-put.ensures.ok _ c.take-bytes.ensures.rest

pub returns-clause-renamed : goal.returns-clause-renamed
returns-clause-renamed c =
    ap Some (renamed-ends _ _ _ _ _ _ (sym c.eq.ensures ∙ c.if-eq.false) (c.requires c.args.self.now refl) c.in_ok-name.ensures.items c.in_ok-put.ensures.ok
    _ c.take-bytes.ensures.rest _ _ c.take-bytes.ensures.bytes c.set.ensures)

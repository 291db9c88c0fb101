-- The index takes the revision that the table takes, or both are empty.
use Rattle.std.proofs.Common.{◌≡◌, ◌∙◌, ◌++◌, ◌∷◌, [], List, Result, Ok, Err, OnOk, true, ap, subst, sym}
use Rattle.std.specs.Result.{is_ok}
use Rattle.kv_model.specs.declared.version.Version.{Version}
use Rattle.kv_model.specs.declared.version.Rev.{Rev}
use Rattle.key_index.specs.Agrees.{Agrees}
use Rattle.key_index.specs.Index.{with_revision}
use Rattle.key_index.proofs.Agrees.{behind-agrees, push-agrees}
use Rattle.table_tests.proofs.trimming.add.Goals as goal

pub put-requires : goal.put-requires
put-requires c = behind-agrees c.args.index.now c.args.table.now (record { main = c.args.main; sub = 0 }) _ c.requires.agrees c.requires.behind

ok-of : {T E : Type 0} (A : Type 0) (r : Result T E) → is_ok r ≡ true → OnOk r A → A
ok-of A (Ok x) e h = h
ok-of A (Err x) e h = cc

pub returns-in-Ok : goal.returns-in-Ok
returns-in-Ok c =
    let v = c.put_at.result in
    let i = c.args.index.now in
    let vs = c.args.table.now in
    let put = ok-of _ c.put.result (sym c.is_ok-indexed.ensures.value ∙ c.if-not-indexed.false) c.put.ensures.ok in
    let same : with_revision c.from_static-name.result (record { main = c.args.main; sub = 0 }) i ≡ with_revision v.key v.rev i =
    ap (λ k. with_revision k (record { main = c.args.main; sub = 0 }) i) (c.from_static-name.ensures ∙ sym c.put_at.ensures.key)
    ∙ ap (λ (p : Rev). with_revision v.key p i) (sym c.put_at.ensures.rev) in
    subst (λ (us : List Version). Agrees c.put.new.self us) (sym c.in-Ok.ensures.ok)
    (subst (λ j. Agrees j (vs ++ v ∷ [])) (sym (put ∙ same)) (push-agrees i vs v c.requires.agrees))

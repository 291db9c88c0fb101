-- One version after another, the keys that are put are listed.
use Rattle.std.proofs.Common.{◌++◌, ◌∷◌, [], map, sym, ◌∙◌, ap, append_assoc}
use Rattle.std.proofs.lemmas.List.{append-nil}
use Rattle.txn_core.specs.Emptied.{put_keys}
use Rattle.txn_core.specs.Touching.{keys_put}
use Rattle.txn_core.specs.Views.{touch_view}
use Rattle.txn_core.proofs.Staying.{put_keys-first}
use Rattle.txn_core.proofs.emptied.touched_from.Goals as goal

pub loop-version-preserved : goal.loop-version-preserved
loop-version-preserved c =
    let at = c.loop-version in
    let v = c.in-Some.version.now in
    let rest = c.next.new.self in
    let had = keys_put (map touch_view at.touched.items) in
    ap (λ ks. ks ++ put_keys rest) c.in_ok-push_put.ensures ∙ append_assoc had (put_keys (v ∷ [])) (put_keys rest)
    ∙ ap (λ ks. had ++ ks) (sym (put_keys-first v rest)) ∙ ap (λ vs. had ++ put_keys vs) (sym c.in-Some.ensures) ∙ at.invariant

pub returns : goal.returns
returns c =
    let listed = keys_put (map touch_view c.loop-version.touched.items) in
    sym (append-nil listed) ∙ ap (λ vs. listed ++ put_keys vs) (sym c.in_default.ensures.0) ∙ c.loop-version.invariant

-- What is put in is what the vector yields.
use Rattle.std.proofs.Common.{◌≡◌, ◌∙◌, ◌++◌, List, [], ◌∷◌, ap, append_assoc, drop, map, refl, sym, take}
use Rattle.std.proofs.lemmas.Iterator.{items_from_drains}
use Rattle.std.proofs.lemmas.Iterator.Adapters.{YieldsList-from_vec}
use Rattle.range_view.specs.declared.reply.KvRef.{KvRef}
use Rattle.live_keys.proofs.listed.put_in.Goals as goal

map-same : (xs : List KvRef) → map (λ x. x) xs ≡ xs
map-same [] = refl
map-same (x ∷ xs) = ap (λ ys. x ∷ ys) (map-same xs)

pub returns : goal.returns
returns c =
    let m = c.in_ok-splice.ensures.items in
    let given : m.1 ≡ c.args.new.items
    = sym (map-same m.1) ∙ items_from_drains m.1 (m.3.1.0, m.3.1.1, λ _. (m.3.0, m.3.1.2)) (YieldsList-from_vec {s = m.0} c.args.new.items m.2.0 (m.2.1 ∙ c.args.new.ok.0)) in
    m.4 ∙ ap (λ ys. take c.args.part.from c.args.kvs.now.items ++ (ys ++ drop c.args.part.to c.args.kvs.now.items)) given
    ∙ sym (append_assoc (take c.args.part.from c.args.kvs.now.items) c.args.new.items (drop c.args.part.to c.args.kvs.now.items))

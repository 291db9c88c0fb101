-- Behind the first key from that of the range on all are above it.
use Rattle.std.proofs.Common.{◌≡◌, ◌<◌, ℕ, zero, suc, List, true, Option, None, Some, MatchOption, Bor, sym, ◌∙◌, ap, arith}
use Rattle.std.specs.Prelude.{⊤}
use Rattle.kv_model.specs.Keys.{key_lt}
use Rattle.key_pages.specs.Pairs.{from_key}
use Rattle.key_index.specs.Index.{nth_of}
use Rattle.key_index.proofs.Nths.{above}
use Rattle.key_index.proofs.index.KeyIndex.nth_key.Goals as goal

pub returns-in-Some-clause-above : goal.returns-in-Some-clause-above
returns-in-Some-clause-above c =
    by c.args.count (is_it c.nth.result c.in-Some.is c.nth.ensures)
  where
    is_it : (r : Option (Bor (List ℕ))) → r ≡ Some c.in-Some.key
        → MatchOption r ⊤ (λ k. nth_of c.args.count c.from.result ≡ Some k.now)
        → nth_of c.args.count (from_key c.args.range.now.key c.self.inside.keys) ≡ Some c.in-Some.key.now
    is_it None e h = cc
    is_it (Some k) e h =
        let g : k ≡ c.in-Some.key = cc in
        sym (ap (nth_of c.args.count) c.from.ensures.value) ∙ h ∙ ap (λ (b : Bor (List ℕ)). Some b.now) g

    by : (n : ℕ) → nth_of n (from_key c.args.range.now.key c.self.inside.keys) ≡ Some c.in-Some.key.now
        → 0 < n → key_lt c.args.range.now.key c.in-Some.key.now ≡ true
    by zero e h = absurd (omega arith)
    by (suc n) e h = above c.args.range.now.key c.self.inside.keys c.from.ensures.ascending n c.in-Some.key.now e

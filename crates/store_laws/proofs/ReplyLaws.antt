-- What the operations of a transaction are answered, read in a good part and in the whole history, both with its changes.
use Rattle.std.proofs.Common.{◌≡◌, ◌≤◌, ℕ, zero, suc, ◌+◌, ◌-◌, ℤ, List, ◌++◌, length, Bool, true, None, refl, sym, ◌∙◌, ap, subst, arith}
use Rattle.std.specs.Prelude.{pos, negsuc}
use Rattle.kv_model.specs.declared.version.Version.{Version}
use Rattle.kv_model.specs.declared.version.KeyRange.{KeyRange}
use Rattle.kv_model.specs.declared.call.RangeQuery.{RangeQuery}
use Rattle.kv_model.specs.History.{Mutation, now, dress, value_at, end_of, rev_le}
use Rattle.store_laws.specs.Sound.{IsHistory}
use Rattle.kv_model.specs.Ranges.{live, range_reply, reply_from, read_place, revision_refusal}
use Rattle.kv_model.specs.Txns.{Path, Replies, place_before, previous_value, if_asked, changes_of, replies_of, put_refusal}
use Rattle.store_laws.specs.Plans.{planned_refusal, ReadsKept}
use Rattle.kv_model.specs.Questions.{IsKept, IsGood}
use Rattle.store_laws.proofs.KeyLaws.{live-same}
use Rattle.store_laws.proofs.PlaceLaws.{AreBy, each-map, each-part, each-dressed, mains-by, rev_le-before, value_at-by, value_at-grows}
use Rattle.store_laws.proofs.GoodLaws.{or-none, or-none-first, read-kept, good-value_now, good-value_at}

-- at these places two lists hold the same: at the end of each kept revision, and within the next
pub record SeesSame (c n : ℕ) (us vs : List Version) : Type 0 where
  pub kept : (r : ℕ) → IsKept c n r → (k : List ℕ) → value_at us (end_of r) k ≡ value_at vs (end_of r) k
  pub within : (sub : ℕ) (k : List ℕ) → value_at us (record { main = n + 1; sub = sub }) k
      ≡ value_at vs (record { main = n + 1; sub = sub }) k

-- each Range of a path that is not refused reads what is kept
pub not-refused-reads : (granted : ℤ → Bool) (c n : ℕ) (vs : List Version) (q : Path) → planned_refusal granted c n vs q ≡ None
    → ReadsKept c n q
unfolding planned_refusal
not-refused-reads granted c n vs Path.end e = tt
not-refused-reads granted c n vs (Path.range q rest) e = (
  or-none-first (revision_refusal c n q.revision) _ e,
  not-refused-reads granted c n vs rest (or-none (revision_refusal c n q.revision) _ e),
)
not-refused-reads granted c n vs (Path.put p rest) e = not-refused-reads granted c n vs rest (or-none (put_refusal granted vs p) _ e)
not-refused-reads granted c n vs (Path.delete d rest) e = not-refused-reads granted c n vs rest e
not-refused-reads granted c n vs (Path.txn b inner rest) e = (
  not-refused-reads granted c n vs inner (or-none-first (planned_refusal granted c n vs inner) _ e),
  not-refused-reads granted c n vs rest (or-none (planned_refusal granted c n vs inner) _ e),
)

module _ (c n : ℕ) (us vs : List Version) (h : SeesSame c n us vs) (k : IsKept c n n) where
  -- the place before a change of the next revision
  pub same-before : (sub : ℕ) (key : List ℕ) → value_at us (place_before (n + 1) sub) key ≡ value_at vs (place_before (n + 1) sub) key
  same-before zero key = let e : n + 1 - 1 ≡ n = omega arith in subst (λ r. value_at us (end_of r) key ≡ value_at vs (end_of r) key) (sym e)
      (h.kept n k key)
  same-before (suc sub) key = h.within sub key

  pub same-live : (sub : ℕ) (r : KeyRange) → live us (place_before (n + 1) sub) r ≡ live vs (place_before (n + 1) sub) r
  same-live sub r = live-same us vs (place_before (n + 1) sub) r (same-before sub)

  same-read : (z : ℤ) (sub : ℕ) → revision_refusal c n z ≡ None → (key : List ℕ) → value_at us (read_place z (place_before (n + 1) sub)) key
      ≡ value_at vs (read_place z (place_before (n + 1) sub)) key
  same-read (pos zero) sub e key = same-before sub key
  same-read (negsuc m) sub e key = same-before sub key
  same-read (pos (suc r)) sub e key =
      let at : (m : ℕ) × IsKept c n m × (end_of (suc r) ≡ end_of m) = read-kept c n (pos (suc r)) k e in
      subst (λ p. value_at us p key ≡ value_at vs p key) (sym at.2) (h.kept at.0 at.1 key)

  same-range_reply : (q : RangeQuery) (sub : ℕ) → revision_refusal c n q.revision ≡ None → range_reply us n (place_before (n + 1) sub) q
      ≡ range_reply vs n (place_before (n + 1) sub) q
  unfolding range_reply
  same-range_reply q sub e = ap (reply_from q n) (live-same us vs (read_place q.revision (place_before (n + 1) sub)) q.range
      (same-read q.revision sub e))

  pub same-changes_of : (sub : ℕ) (q : Path) → changes_of us (n + 1) sub q ≡ changes_of vs (n + 1) sub q
  unfolding changes_of
  same-changes_of sub Path.end = refl
  same-changes_of sub (Path.range q rest) = same-changes_of sub rest
  same-changes_of sub (Path.put p rest) = ap suc (same-changes_of (suc sub) rest)
  same-changes_of sub (Path.delete d rest) =
      ap (λ kvs. length kvs + changes_of us (n + 1) (sub + length kvs) rest) (same-live sub d.range)
      ∙ ap (λ m. length (live vs (place_before (n + 1) sub) d.range) + m)
      (same-changes_of (sub + length (live vs (place_before (n + 1) sub) d.range)) rest)
  same-changes_of sub (Path.txn b inner rest) =
      ap (λ m. m + changes_of us (n + 1) (sub + m) rest) (same-changes_of sub inner)
      ∙ ap (λ m. changes_of vs (n + 1) sub inner + m) (same-changes_of (sub + changes_of vs (n + 1) sub inner) rest)

  -- so every operation is answered the same
  pub same-replies : (sub : ℕ) (q : Path) → ReadsKept c n q → replies_of us n sub q ≡ replies_of vs n sub q
  unfolding replies_of
  same-replies sub Path.end a = refl
  same-replies sub (Path.range q rest) a = λ i. Replies.range (same-range_reply q sub a.0 i) (same-replies sub rest a.1 i)
  same-replies sub (Path.put p rest) a = λ i. Replies.put (previous_value p.prev_kv (same-before sub p.key i)) (same-replies (suc sub) rest
      a i)
  same-replies sub (Path.delete d rest) a =
      ap (λ kvs. Replies.delete (length kvs) (if_asked d.prev_kv kvs) (replies_of us n (sub + length kvs) rest)) (same-live sub d.range)
      ∙ ap (Replies.delete (length (live vs (place_before (n + 1) sub) d.range)) (if_asked d.prev_kv (live vs (place_before (n + 1) sub)
      d.range))) (same-replies (sub + length (live vs (place_before (n + 1) sub) d.range)) rest a)
  same-replies sub (Path.txn b inner rest) a =
      (λ i. Replies.txn b (same-replies sub inner a.0 i) (replies_of us n (sub + same-changes_of sub inner i) rest))
      ∙ ap (Replies.txn b (replies_of vs n sub inner)) (same-replies (sub + changes_of vs (n + 1) sub inner) rest a.1)

-- ---- a good part and the whole history

-- no version of a history stands behind a place of the next revision
next-by : (ms : List Mutation) (sub : ℕ) → IsHistory ms → AreBy (record { main = now ms + 1; sub = sub }) (dress ms)
next-by ms sub h = each-dressed (λ p k. rev_le p (record { main = now ms + 1; sub = sub }) ≡ true) ms
    (each-map (λ m. m.rev.main ≤ now ms) (λ m. rev_le m.rev (record { main = now ms + 1; sub = sub })
    ≡ true) (λ m l. rev_le-before m.rev (record { main = now ms + 1; sub = sub }) (omega arith)) ms (mains-by ms h))

-- with the same versions behind them they see the same
pub good-sees : (vs t : List Version) (ms : List Mutation) (c : ℕ) → IsGood vs ms c → IsHistory ms → c ≤ now ms → SeesSame c (now ms) (vs
    ++ t) (dress ms ++ t)
good-sees vs t ms c g h f = record {
  kept = λ r a k. value_at-grows vs (dress ms) t (end_of r) k (good-value_at vs ms c r k g h a);
  within = λ sub k. value_at-grows vs (dress ms) t (record { main = now ms + 1; sub = sub }) k
      (value_at-by vs (record { main = now ms + 1; sub = sub }) k (each-part (λ v. rev_le v.rev (record { main = now ms + 1; sub = sub })
      ≡ true) g.part (next-by ms sub h))
      ∙ good-value_now vs ms c k g h f ∙ sym (value_at-by (dress ms) (record { main = now ms + 1; sub = sub }) k (next-by ms sub h)));
}

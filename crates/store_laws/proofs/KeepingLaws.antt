-- What is kept after an event, by what a store says of its versions and of the worlds before and after.
use Rattle.std.proofs.Common.{◌≡◌, ◌≤◌, ◌<◌, ℕ, ◌+◌, pos, List, [], ◌∷◌, ◌++◌, length, drop, filter, Bool, true, false, cond, ◌&&◌}
use Rattle.std.proofs.Common.{refl, sym, ◌∙◌, ap, inl, inr, arith}
use Rattle.std.specs.Prelude.{nat_lt, nat_le}
use Rattle.std.specs.List.{AllByRecursion}
use Rattle.std.proofs.lemmas.Bool.{le-leb, lt-leb, le-ltb, lt-ltb, ltb-true}
use Rattle.std.proofs.lemmas.List.{append-nil, drop_all}
use Rattle.std.proofs.lemmas.List.Elements.{filter-append}
use Rattle.std.proofs.Math.Seq.{drop-append_seam}
use Rattle.kv_model.specs.declared.version.Rev.{Rev}
use Rattle.kv_model.specs.declared.version.Version.{Version}
use Rattle.kv_model.specs.declared.version.Body.{Body}
use Rattle.kv_model.specs.declared.version.Body.TheVariants.{Put, Gone}
use Rattle.kv_model.specs.Keys.{all_keys}
use Rattle.kv_model.specs.Lists.{IsPart, nothing}
use Rattle.kv_model.specs.History.{Mutation, dress}
use Rattle.kv_model.specs.Txns.{added_by}
use Rattle.kv_model.specs.Watches.{matches, wants}
use Rattle.kv_model.specs.Watches.{undelivered}
use Rattle.kv_model.specs.World.{World, Watch, opening, revision, versions, added}
use Rattle.kv_model.specs.Headline.{Keeping, kept_after}
use Rattle.kv_model.specs.Headline.{nothing_kept}
use Rattle.store_laws.specs.Trimming.{oldest_place}
use Rattle.store_laws.specs.Stands.{Store, StandsFor}
use Rattle.store_laws.specs.TrimmingLaws.{keeping}
use Rattle.store_laws.proofs.PlaceLaws.{each-map, each-part}
use Rattle.store_laws.proofs.BatchLaws.{dress-added, each-added, dressed-mains, filter-none}
use Rattle.store_laws.proofs.StandsWatches.{good-undelivered}
use Rattle.store_laws.proofs.PlaceSteps.{is_ahead, ahead-above}
use Rattle.store_laws.proofs.BetweenSteps.{starts_over}
use Rattle.store_laws.proofs.MoveLaws.{Adds, Moves, Rises}

-- ---- the watch of everything from a revision on

abbrev everything_from : ℕ → Watch
everything_from n = record {
  number = 0;
  id = pos 0;
  watched = record { range = all_keys; no_put = false; no_delete = false; prev_kv = false };
  late = false;
  next = n;
}

wants-each : (n : ℕ) (b : Body) → wants (everything_from n).watched b ≡ true
wants-each n (Put create version lease value) = refl
wants-each n Gone = refl

filter-each : {X : Type 0} (p : X → Bool) (xs : List X) → AllByRecursion (λ x. p x ≡ true) xs → filter p xs ≡ xs
filter-each p [] h = refl
filter-each p (x ∷ xs) h = ap (λ b. cond b (x ∷ filter p xs) (filter p xs)) h.0 ∙ ap (λ ys. x ∷ ys) (filter-each p xs h.1)

-- of versions below a revision, and others from there on, it is told of the others
told-from : (n : ℕ) (us vs : List Version) → AllByRecursion (λ v. v.rev.main < n) us → AllByRecursion (λ v. n ≤ v.rev.main) vs
    → undelivered (us ++ vs) (everything_from n) ≡ vs
told-from n us vs low high =
    filter-append told us vs
    ∙ ap (λ l. l ++ filter told vs) (filter-none told us (each-map (λ v. v.rev.main < n) (λ v. told v ≡ false)
    (λ v l. ap (λ b. b && matches (everything_from n).watched v) (lt-leb n v.rev.main l)) us low))
    ∙ filter-each told vs (each-map (λ v. n ≤ v.rev.main) (λ v. told v ≡ true)
    (λ v l. ap (λ b. b && matches (everything_from n).watched v) (le-leb n v.rev.main l) ∙ wants-each n v.body) vs high)
  where
    told : Version → Bool
    told v = nat_le n v.rev.main && matches (everything_from n).watched v

-- ---- what is added

-- versions above the revision that a store has besides are those that the world has besides
added-is : (s t : Store) (w u : World) (vs : List Version) → StandsFor s w → StandsFor t u → Adds w u → t.versions ≡ s.versions ++ vs
    → AllByRecursion (λ v. s.revision < v.rev.main) vs → vs ≡ added w u
added-is s t w u vs h k a grown above =
    sym (ap (λ xs. undelivered xs (everything_from next)) grown ∙ told-from next s.versions vs before behind)
    ∙ good-undelivered t.versions u.mutations u.compacted (everything_from next) k.good k.sound.history low
    ∙ ap (λ xs. undelivered xs (everything_from next)) whole
    ∙ told-from next (versions w) more (each-map (λ v. v.rev.main ≤ revision w) (λ v. v.rev.main < next) (λ v l. omega arith)
    (versions w) (dressed-mains w.mutations h.sound.history))
    (each-map (λ v. v.rev.main ≡ next) (λ v. next ≤ v.rev.main) (λ v e. omega arith) more
    (each-added (λ q k. q.main ≡ next) (versions w) a.changes a.at))
    ∙ sym (ap (drop (length (versions w))) whole ∙ drop-append_seam (versions w) more)
  where
    next : ℕ
    next = revision w + 1

    more : List Version
    more = added_by (versions w) a.changes

    whole : versions u ≡ versions w ++ more
    whole = ap dress a.mutations ∙ dress-added w.mutations a.changes

    before : AllByRecursion (λ v. v.rev.main < next) s.versions
    before = each-map (λ v. v.rev.main ≤ revision w) (λ v. v.rev.main < next) (λ v l. omega arith) s.versions
        (each-part (λ v. v.rev.main ≤ revision w) h.good.part (dressed-mains w.mutations h.sound.history))

    behind : AllByRecursion (λ v. next ≤ v.rev.main) vs
    behind = let now : s.revision ≡ revision w = h.revision_is in
        each-map (λ v. s.revision < v.rev.main) (λ v. next ≤ v.rev.main) (λ v l. omega arith) vs above

    low : u.compacted ≤ next
    low = let e : u.compacted ≡ w.compacted = a.compacted in let l : w.compacted ≤ revision w = h.sound.floor in omega arith

-- ---- what is kept, and what of it is to be visited

-- where neither the history nor the compaction moves, what is kept does not either
pub rests_kept : (w u : World) (k : Keeping) → u.mutations ≡ w.mutations → u.compacted ≡ w.compacted → k ≡ kept_after w u k
rests_kept w u k e f = λ i. record { kept = kept i; ahead = ahead i }
  where
    kept : k.kept ≡ k.kept ++ added w u
    kept = sym (ap (λ xs. k.kept ++ xs) (ap (λ ms. drop (length (versions w)) (dress ms)) e
        ∙ drop_all (length (versions w)) (versions w) (omega arith)) ∙ append-nil k.kept)

    ahead : k.ahead ≡ (kept_after w u k).ahead
    ahead = ap (λ b. cond b (filter (λ v. nat_le v.rev.main u.compacted) k.kept) k.ahead)
        (sym (le-ltb w.compacted u.compacted (omega (arith, f))))

-- a store that has versions above its revision besides keeps what the world adds, and none of it is to be visited
pub adds_kept : (s t : Store) (w u : World) (p : Rev) (vs : List Version) → StandsFor s w → StandsFor t u → Moves w u
    → t.versions ≡ s.versions ++ vs → AllByRecursion (λ v. s.revision < v.rev.main) vs → t.compacted ≡ s.compacted
    → keeping t.versions p t.compacted ≡ kept_after w u (keeping s.versions p s.compacted)
adds_kept s t w u p vs h k (inr r) grown above same =
    absurd (let up : w.compacted < u.compacted = ltb-true w.compacted u.compacted r.up in
    let a : s.compacted ≡ w.compacted = h.compacted in let b : t.compacted ≡ u.compacted = k.compacted in omega arith)
adds_kept s t w u p vs h k (inl a) grown above same =
    (λ i. keeping (grown i) p (same i)) ∙ λ i. record { kept = s.versions ++ is i; ahead = ahead i }
  where
    is : vs ≡ added w u
    is = added-is s t w u vs h k a grown above

    high : AllByRecursion (λ v. s.compacted < v.rev.main) vs
    high = let c : s.compacted ≡ w.compacted = h.compacted in let n : s.revision ≡ revision w = h.revision_is in
        let l : w.compacted ≤ revision w = h.sound.floor in
        each-map (λ v. s.revision < v.rev.main) (λ v. s.compacted < v.rev.main) (λ v m. omega arith) vs above

    ahead : (keeping (s.versions ++ vs) p s.compacted).ahead ≡ (kept_after w u (keeping s.versions p s.compacted)).ahead
    ahead = filter-append (is_ahead p s.compacted) s.versions vs
        ∙ ap (λ l. filter (is_ahead p s.compacted) s.versions ++ l) (ahead-above p s.compacted vs high)
        ∙ append-nil (filter (is_ahead p s.compacted) s.versions)
        ∙ ap (λ b. cond b (filter (λ v. nat_le v.rev.main u.compacted) s.versions) (keeping s.versions p s.compacted).ahead)
        (sym (le-ltb w.compacted u.compacted (let e : u.compacted ≡ w.compacted = a.compacted in omega arith)))

-- a store whose compaction rose begins again with all that it keeps at or below it
pub rises_kept : (s t : Store) (w u : World) (p : Rev) → StandsFor s w → StandsFor t u → Moves w u → t.versions ≡ s.versions
    → s.compacted < t.compacted → keeping t.versions oldest_place t.compacted ≡ kept_after w u (keeping s.versions p s.compacted)
rises_kept s t w u p h k (inl a) same up =
    absurd (let e : u.compacted ≡ w.compacted = a.compacted in
    let f : s.compacted ≡ w.compacted = h.compacted in let g : t.compacted ≡ u.compacted = k.compacted in omega arith)
rises_kept s t w u p h k (inr r) same up =
    (λ i. keeping (same i) oldest_place (k.compacted i)) ∙ λ i. record { kept = kept i; ahead = ahead i }
  where
    kept : s.versions ≡ s.versions ++ added w u
    kept = sym (ap (λ xs. s.versions ++ xs) (ap (λ ms. drop (length (versions w)) (dress ms)) r.mutations
        ∙ drop_all (length (versions w)) (versions w) (omega arith)) ∙ append-nil s.versions)

    ahead : (keeping s.versions oldest_place u.compacted).ahead ≡ (kept_after w u (keeping s.versions p s.compacted)).ahead
    ahead = (starts_over s.versions u.compacted).ahead
        ∙ ap (λ b. cond b (filter (λ v. nat_le v.rev.main u.compacted) s.versions) (keeping s.versions p s.compacted).ahead) (sym r.up)

nil-part : {us : List Version} → IsPart us [] → us ≡ []
nil-part nothing = refl

-- a store that stands for the opening keeps nothing
pub opens_kept : (s : Store) (p : Rev) (c : ℕ) → StandsFor s opening → keeping s.versions p c ≡ nothing_kept
unfolding dress
opens_kept s p c h = ap (λ vs. keeping vs p c) (nil-part h.good.part)

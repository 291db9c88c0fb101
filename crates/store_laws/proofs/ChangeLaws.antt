-- Of which revision a change is, and what is stored by it.
use Rattle.std.proofs.Common.{◌≡◌, ℕ, ◌+◌, ◌<◌, List, [], ◌∷◌, ◌++◌, length, drop, true, cond, None, Some}
use Rattle.std.proofs.Common.{refl, sym, ◌∙◌, ap, subst, inl, inr, arith}
use Rattle.std.specs.Prelude.{fold, nat_lt}
use Rattle.std.proofs.lemmas.Bool.{le-ltb, lt-ltb}
use Rattle.std.proofs.lemmas.List.{append-nil, drop_all}
use Rattle.std.proofs.lemmas.List.Sums.{fold-append}
use Rattle.std.proofs.Math.Seq.{drop-append_seam}
use Rattle.kv_model.specs.declared.version.Rev.{Rev}
use Rattle.kv_model.specs.declared.version.Version.{Version}
use Rattle.kv_model.specs.History.{Mutation, dress, now, now_after}
use Rattle.kv_model.specs.Feed.{Published}
use Rattle.kv_model.specs.Step.{perform, expire}
use Rattle.kv_model.specs.Txns.{added_by}
use Rattle.kv_model.specs.Wire.{raised}
use Rattle.kv_model.specs.World.{World, revision, versions, added}
use Rattle.store_laws.specs.Changes.{untrimmed, change_between, batch_of}
use Rattle.store_laws.specs.FeedLaws.{IsOfRevision, CommandIsOfRevision, ExpiryIsOfRevision, GoesAlong, CommandIsStored, ExpiryIsStored}
use Rattle.store_laws.specs.FeedLaws.{stored_at}
use Rattle.store_laws.specs.Snapshots.{Stored, Untrimmed, absorb, appended, grow, last_main_or}
use Rattle.store_laws.specs.Stands.{Store}
use Rattle.store_laws.specs.Trimming.{oldest_place}
use Rattle.store_laws.proofs.BatchLaws.{dress-added, each-added}
use Rattle.store_laws.proofs.FeedLaws.{moved}
use Rattle.store_laws.proofs.MoveLaws.{Moves, AtMain, command_moves, expiry_moves}

-- ---- what is published between two worlds

-- where the compaction stays it is what was added, and where it rises it is the new one
pub change_added : (w u : World) → u.compacted ≡ w.compacted → change_between w u ≡ batch_of (added w u)
change_added w u e = ap (λ b. cond b (Published.floor u.compacted ∷ []) (batch_of (added w u)))
    (le-ltb w.compacted u.compacted (omega (arith, e)))

pub change_floor : (w u : World) → nat_lt w.compacted u.compacted ≡ true → change_between w u ≡ Published.floor u.compacted ∷ []
change_floor w u up = ap (λ b. cond b (Published.floor u.compacted ∷ []) (batch_of (added w u))) up

added-changes : (w u : World) (us : List Mutation) → u.mutations ≡ w.mutations ++ us → added w u ≡ added_by (versions w) us
added-changes w u us e = ap (drop (length (versions w))) (ap dress e ∙ dress-added w.mutations us)
    ∙ drop-append_seam (versions w) (added_by (versions w) us)

added-none : (w u : World) → u.mutations ≡ w.mutations → added w u ≡ []
added-none w u e = ap (λ ms. drop (length (versions w)) (dress ms)) e ∙ drop_all (length (versions w)) (versions w) (omega arith)

-- ---- its revision

last-at : (r n : ℕ) (us : List Mutation) → n ≡ r → AtMain r us → now_after n us ≡ r
last-at r n [] e at = e
last-at r n (u ∷ us) e at = last-at r u.rev.main us at.0 at.1

rose : (m n : ℕ) → m < n → cond (nat_lt m n) (Some n) None ≡ Some n
rose m n l = ap (λ b. cond b (Some n) None) (lt-ltb m n l)

stayed : (w u : World) → u.mutations ≡ w.mutations → raised w u ≡ None
stayed w u e = ap (λ n. cond (nat_lt (revision w) n) (Some n) None) (ap now e)
    ∙ ap (λ b. cond b (Some (revision w)) None) (le-ltb (revision w) (revision w) (omega arith))

adds_at : (w u : World) (us : List Mutation) → u.mutations ≡ w.mutations ++ us → AtMain (revision w + 1) us → u.compacted ≡ w.compacted
    → IsOfRevision (change_between w u) (raised w u)
adds_at w u [] e at same =
    let none : u.mutations ≡ w.mutations = e ∙ append-nil w.mutations in
    subst (IsOfRevision (change_between w u)) (sym (stayed w u none))
    (inl (change_added w u same ∙ ap batch_of (added-none w u none)))
adds_at w u (m ∷ ms) e at same =
    let next : revision u ≡ revision w + 1
    = ap now e ∙ fold-append (λ _ m. m.rev.main) 1 w.mutations (m ∷ ms) ∙ last-at (revision w + 1) m.rev.main ms at.0 at.1 in
    subst (IsOfRevision (change_between w u)) (sym (ap (λ n. cond (nat_lt (revision w) n) (Some n) None) next
    ∙ rose (revision w) (revision w + 1) (omega arith))) (
      added_by (versions w) (m ∷ ms),
      change_added w u same ∙ ap batch_of (added-changes w u (m ∷ ms) e),
      each-added (λ p k. p.main ≡ revision w + 1) (versions w) (m ∷ ms) at,
    )

of_revision : (w u : World) → Moves w u → IsOfRevision (change_between w u) (raised w u)
of_revision w u (inl a) = adds_at w u a.changes a.mutations a.at a.compacted
of_revision w u (inr r) = subst (IsOfRevision (change_between w u)) (sym (stayed w u r.mutations))
    (inr (u.compacted, change_floor w u r.up))

pub command_of_revision : CommandIsOfRevision
command_of_revision w call = of_revision w (perform w call).1 (command_moves w call)

pub expiry_of_revision : ExpiryIsOfRevision
expiry_of_revision w = of_revision w (expire w).1 (expiry_moves w)

-- ---- what is stored by it

absorb_batch : (s : Stored) (vs : List Version) → fold absorb s (batch_of vs) ≡ appended s vs
absorb_batch s [] = λ i. record s { versions = sym (append-nil s.versions) i }
absorb_batch s (v ∷ vs) = refl

grow_batch : (x : Untrimmed) (vs : List Version) → (fold grow x (batch_of vs)).revision ≡ last_main_or x.revision vs
grow_batch x [] = refl
grow_batch x (v ∷ vs) = refl

stored_on : (s t : Store) (p q : Rev) (w u : World) → Moves w u → GoesAlong s t p q w u
    → stored_at t q ≡ fold absorb (stored_at s p) (change_between w u)
stored_on s t p q w u (inl a) g =
    (λ i. record { versions = g.versions i; compacted = floor i; revision = rev i; place = place i })
    ∙ sym (ap (fold absorb (stored_at s p)) (change_added w u a.compacted) ∙ absorb_batch (stored_at s p) (added w u))
  where
    floor : t.compacted ≡ s.compacted
    floor = g.stands.compacted ∙ a.compacted ∙ sym g.stood.compacted

    rev : t.revision ≡ last_main_or s.revision (added w u)
    rev = g.stands.revision_is ∙ sym (ap (λ x. x.revision) (moved w u (inl a)))
        ∙ ap (λ ch. (fold grow (untrimmed w) ch).revision) (change_added w u a.compacted) ∙ grow_batch (untrimmed w) (added w u)
        ∙ ap (λ r. last_main_or r (added w u)) (sym g.stood.revision_is)

    place : q ≡ p
    place = g.place ∙ ap (λ b. cond b oldest_place p) (le-ltb w.compacted u.compacted (omega (arith, a.compacted)))
stored_on s t p q w u (inr r) g =
    (λ i. record { versions = same i; compacted = g.stands.compacted i; revision = rev i; place = place i })
    ∙ sym (ap (fold absorb (stored_at s p)) (change_floor w u r.up))
  where
    same : t.versions ≡ s.versions
    same = g.versions ∙ ap (λ xs. s.versions ++ xs) (added-none w u r.mutations) ∙ append-nil s.versions

    rev : t.revision ≡ s.revision
    rev = g.stands.revision_is ∙ ap now r.mutations ∙ sym g.stood.revision_is

    place : q ≡ oldest_place
    place = g.place ∙ ap (λ b. cond b oldest_place p) r.up

pub command_stored : CommandIsStored
command_stored s t p q w call g = stored_on s t p q w (perform w call).1 (command_moves w call) g

pub expiry_stored : ExpiryIsStored
expiry_stored s t p q w g = stored_on s t p q w (expire w).1 (expiry_moves w) g

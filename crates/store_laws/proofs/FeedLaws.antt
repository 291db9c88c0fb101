-- What is published makes of the versions what the commands made of them, and a reader stores a part of it.
use Rattle.std.proofs.Common.{◌≡◌, ℕ, ◌≤◌, List, [], ◌∷◌, ◌++◌, length, filter, Bool, true, false, not, cond, Option}
use Rattle.std.proofs.Common.{None, Some, refl, sym, ◌∙◌, ap, subst, inl, inr, arith}
use Rattle.std.specs.Prelude.{fold, find, drop, nat_lt, nat_le}
use Rattle.std.proofs.lemmas.Bool.{le-ltb}
use Rattle.std.proofs.lemmas.List.{append-nil}
use Rattle.std.proofs.lemmas.List.Sums.{fold-append}
use Rattle.std.proofs.Math.Seq.{drop-append_seam}
use Rattle.kv_model.specs.declared.version.Rev.{Rev}
use Rattle.kv_model.specs.declared.version.Version.{Version}
use Rattle.kv_model.specs.Lists.{IsPart, nothing, keep, leave}
use Rattle.kv_model.specs.History.{Mutation, dress, dress_after, now, rev_lt, without_rev, is_at}
use Rattle.kv_model.specs.World.{World, added}
use Rattle.kv_model.specs.Told.{Trimmed}
use Rattle.kv_model.specs.Step.{perform, expire}
use Rattle.store_laws.specs.Trimming.{TrimStep, trimmed, trimmed_next, visited, finished, is_trimmed, place_after}
use Rattle.kv_model.specs.Feed.{Published}
use Rattle.store_laws.specs.Snapshots.{Stored, absorb, blank, Untrimmed, grow, nothing_published, last_main_or}
use Rattle.store_laws.specs.Changes.{untrimmed, change_between, batch_of}
use Rattle.store_laws.specs.FeedLaws.{CommandIsPublished, ExpiryIsPublished, CommandIsOneChange, ExpiryIsOneChange, ReaderStoresPart}
use Rattle.store_laws.proofs.HistoryLaws.{dress_after-append}
use Rattle.store_laws.proofs.BatchLaws.{part-append}
use Rattle.store_laws.proofs.MoveLaws.{Moves, command_moves, expiry_moves}

-- ---- one operation at most

batch_one : (vs : List Version) → length (batch_of vs) ≤ 1
batch_one [] = omega arith
batch_one (v ∷ vs) = omega arith

between_one : (w u : World) → length (change_between w u) ≤ 1
between_one w u = by (nat_lt w.compacted u.compacted)
  where
    by : (b : Bool) → length (cond b (Published.floor u.compacted ∷ []) (batch_of (added w u))) ≤ 1
    by true = omega arith
    by false = batch_one (added w u)

pub command_one : CommandIsOneChange
command_one w call = between_one w (perform w call).1

pub expiry_one : ExpiryIsOneChange
expiry_one w = between_one w (expire w).1

-- ---- what is added

-- a history and a compaction, as one has them who was told of every change
abbrev whole : List Mutation → ℕ → Untrimmed
whole ms c = record { versions = dress ms; compacted = c; revision = now ms }

mains : (before us : List Mutation) (r : ℕ) → fold (λ _ v. v.rev.main) r (dress_after before us) ≡ fold (λ _ m. m.rev.main) r us
mains before [] r = refl
mains before (u ∷ us) r = mains (before ++ u ∷ []) us u.rev.main

dress-more : (ms us : List Mutation) → dress (ms ++ us) ≡ dress ms ++ dress_after ms us
unfolding dress
dress-more ms us = dress_after-append [] ms us

-- more of the history is one batch
batch_grows : (ms us : List Mutation) (c : ℕ) → fold grow (whole ms c) (batch_of (dress_after ms us)) ≡ whole (ms ++ us) c
batch_grows ms [] c = ap (λ l. whole l c) (sym (append-nil ms))
batch_grows ms (u ∷ us) c = λ i. record {
  versions = sym (dress-more ms (u ∷ us)) i;
  compacted = c;
  revision = (mains ms (u ∷ us) (now ms) ∙ sym (fold-append (λ _ m. m.rev.main) 1 ms (u ∷ us))) i;
}

-- from one history and compaction to others, by what is published between them
abbrev Leads : List Mutation → ℕ → List Mutation → ℕ → Type 0
Leads ms c ns d = fold grow (whole ms c) (cond (nat_lt c d) (Published.floor d ∷ []) (batch_of (drop (length (dress ms)) (dress ns))))
    ≡ whole ns d

leads_on : (ms us : List Mutation) (c : ℕ) → Leads ms c (ms ++ us) c
leads_on ms us c =
    ap (λ b. fold grow (whole ms c) (cond b (Published.floor c ∷ []) (batch_of (drop (length (dress ms)) (dress (ms ++ us))))))
    (le-ltb c c (omega arith))
    ∙ ap (λ vs. fold grow (whole ms c) (batch_of (drop (length (dress ms)) vs))) (dress-more ms us)
    ∙ ap (λ vs. fold grow (whole ms c) (batch_of vs)) (drop-append_seam (dress ms) (dress_after ms us))
    ∙ batch_grows ms us c

leads_up : (ms : List Mutation) (c d : ℕ) → nat_lt c d ≡ true → Leads ms c ms d
leads_up ms c d h = ap (λ b. fold grow (whole ms c) (cond b (Published.floor d ∷ []) (batch_of (drop (length (dress ms)) (dress ms))))) h

-- ---- every command either adds to the history or moves the compaction

pub moved : (w u : World) → Moves w u → fold grow (untrimmed w) (change_between w u) ≡ untrimmed u
moved w u (inl h) = subst (λ c. Leads w.mutations w.compacted u.mutations c) (sym h.compacted)
    (subst (λ ms. Leads w.mutations w.compacted ms w.compacted) (sym h.mutations) (leads_on w.mutations h.changes w.compacted))
moved w u (inr h) = subst (λ ms. Leads w.mutations w.compacted ms u.compacted) (sym h.mutations)
    (leads_up w.mutations w.compacted u.compacted h.up)

pub command_published : CommandIsPublished
command_published w call = moved w (perform w call).1 (command_moves w call)

pub expiry_published : ExpiryIsPublished
expiry_published w = moved w (expire w).1 (expiry_moves w)

-- ---- what a reader stores

part-filter : {X : Type 0} (t : X → Bool) {xs ys : List X} → IsPart xs ys → IsPart (filter t xs) ys
part-filter t nothing = nothing
part-filter {X} t (keep {x = x} {xs = xs} {ys = ys} p) = by (t x) (part-filter t p)
  where
    by : (b : Bool) → IsPart (filter t xs) ys → IsPart (cond b (x ∷ filter t xs) (filter t xs)) (x ∷ ys)
    by true q = keep q
    by false q = leave q
part-filter t (leave p) = leave (part-filter t p)

trimmed_part : (vs us : List Version) (p : Rev) (c : ℕ) → IsPart vs us → IsPart (trimmed vs p c).versions us
unfolding trimmed
trimmed_part vs us p c h = next (find (λ v. not (rev_lt v.rev p)) vs)
  where
    visit : (v : Version) (b : Bool)
        → IsPart (cond {A = TrimStep} b (record {
          told = Trimmed.removed v.rev;
          versions = without_rev (Some v.rev) vs;
          place = place_after v.rev;
        }) (record { told = Trimmed.kept v.rev; versions = vs; place = place_after v.rev })).versions us
    visit v true = part-filter (λ u. not (is_at v.rev u)) h
    visit v false = h

    by : (v : Version) (b : Bool) → IsPart (cond b (visited vs c v) (finished vs p)).versions us
    by v true = visit v (is_trimmed vs c v)
    by v false = h

    next : (o : Option Version) → IsPart (trimmed_next vs p c o).versions us
    next None = h
    next (Some v) = by v (nat_le v.rev.main c)

-- what is stored of what was published, from a snapshot of it on
record StoresOf (s : Stored) (u : Untrimmed) : Type 0 where
  part : IsPart s.versions u.versions
  compacted : s.compacted ≡ u.compacted
  revision : s.revision ≡ u.revision

stores_one : (s : Stored) (u : Untrimmed) (op : Published) → StoresOf s u → StoresOf (absorb s op) (grow u op)
stores_one s u (Published.batch vs) h = record {
  part = part-append vs h.part;
  compacted = h.compacted;
  revision = ap (λ r. last_main_or r vs) h.revision;
}
stores_one s u (Published.floor c) h = record { part = h.part; compacted = refl; revision = h.revision }
stores_one s u Published.trim h = record {
  part = trimmed_part s.versions u.versions s.place s.compacted h.part;
  compacted = h.compacted;
  revision = h.revision;
}

stores_all : (ops : List Published) (s : Stored) (u : Untrimmed) → StoresOf s u → StoresOf (fold absorb s ops) (fold grow u ops)
stores_all [] s u h = h
stores_all (op ∷ ops) s u h = stores_all ops (absorb s op) (grow u op) (stores_one s u op h)

pub stores_part : ReaderStoresPart
stores_part ops = let h = stores_all ops blank nothing_published (record { part = nothing; compacted = refl; revision = refl }) in
    record { part = h.part; compacted = h.compacted; revision = h.revision }

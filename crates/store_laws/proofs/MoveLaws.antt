-- A command adds the changes of one revision more to the history, or none, or it moves the compaction.
use Rattle.std.proofs.Common.{◌≡◌, ◌⊎◌, ℕ, ◌+◌, suc, ℤ, pos, negsuc, List, [], ◌∷◌, ◌++◌, length, Bool, true, false, cond, ◌||◌, ◌==◌}
use Rattle.std.proofs.Common.{nat_lt, nat_le, Option, None, Some, Ok, Err, refl, sym, ◌∙◌, ap, inl, inr}
use Rattle.std.specs.List.{AllByRecursion}
use Rattle.std.proofs.lemmas.Bool.{lt-ltb, leb-false}
use Rattle.std.proofs.lemmas.List.{append-nil}
use Rattle.kv_model.specs.declared.version.Version.{Version}
use Rattle.kv_model.specs.declared.refusal.Refusal.{Refusal}
use Rattle.kv_model.specs.declared.refusal.Refusal.TheVariants.{Compacted, Future, RevisionsSpent}
use Rattle.kv_model.specs.History.{Mutation, value_at, end_of}
use Rattle.kv_model.specs.Ranges.{refuse_if}
use Rattle.kv_model.specs.Calls.{Call}
use Rattle.kv_model.specs.Leases.{Lease, lease_at, due}
use Rattle.kv_model.specs.World.{World, revision, versions}
use Rattle.kv_model.specs.Txns.{Path, previous_value, put_change, deletes_of, delete_changes, effect, extend, extend_all}
use Rattle.kv_model.specs.Told.{Reply}
use Rattle.kv_model.specs.Step.{Made, made_in, perform, expire, world_of, commit, refused_or, last_main, compact_in, keep_alive_in}
use Rattle.kv_model.specs.Step.{time_to_live_in, range_in, put_in, delete_in, txn_in, run_path, watch_in, grant_in, revoke_in, expire_at}
use Rattle.kv_model.specs.Step.{expiry_of}
use Rattle.store_laws.proofs.PlaceLaws.{each-append}

-- ---- the changes of a command stand at one revision

abbrev pub AtMain : ℕ → List Mutation → Type 0
AtMain main us = AllByRecursion (λ u. u.rev.main ≡ main) us

deletes_at : (main sub : ℕ) (ks : List (List ℕ)) → AtMain main (deletes_of main sub ks)
deletes_at main sub [] = tt
deletes_at main sub (k ∷ ks) = (refl, deletes_at main (suc sub) ks)

effect_at : (vs : List Version) (main sub : ℕ) (path : Path) → AtMain main (effect vs main sub path)
unfolding effect
effect_at vs main sub Path.end = tt
effect_at vs main sub (Path.range q rest) = effect_at vs main sub rest
effect_at vs main sub (Path.put p rest) = (refl, effect_at (extend vs (put_change vs main sub p)) main (suc sub) rest)
effect_at vs main sub (Path.delete d rest) =
    let ms = delete_changes vs main sub d in
    each-append (λ u. u.rev.main ≡ main) ms _ (deletes_at main sub _) (effect_at (extend_all vs ms) main (sub + length ms) rest)
effect_at vs main sub (Path.txn b inner rest) =
    let ms = effect vs main sub inner in
    each-append (λ u. u.rev.main ≡ main) ms _ (effect_at vs main sub inner) (effect_at (extend_all vs ms) main (sub + length ms) rest)

-- ---- every command either adds to the history or moves the compaction

pub record Adds (w u : World) : Type 0 where
  pub changes : List Mutation
  pub mutations : u.mutations ≡ w.mutations ++ changes
  pub at : AtMain (revision w + 1) changes
  pub compacted : u.compacted ≡ w.compacted

pub record Rises (w u : World) : Type 0 where
  pub mutations : u.mutations ≡ w.mutations
  pub up : nat_lt w.compacted u.compacted ≡ true

abbrev pub Moves : World → World → Type 0
Moves w u = Adds w u ⊎ Rises w u

stays : (w u : World) → u.mutations ≡ w.mutations → u.compacted ≡ w.compacted → Moves w u
stays w u e f = inl (record { changes = []; mutations = e ∙ sym (append-nil w.mutations); at = tt; compacted = f })

-- the world that a command made, or the same
record MovesBy (w : World) (made : Made) : Type 0 where
  moves : Moves w (world_of w made)

refuses : (w : World) (e : Refusal) → MovesBy w (Err e)
refuses w e = record { moves = stays w w refl refl }

rests : (w u : World) (r : Reply) → u.mutations ≡ w.mutations → u.compacted ≡ w.compacted → MovesBy w (Ok (r, u))
rests w u r e f = record { moves = stays w u e f }

unless : (w : World) (o : Option Refusal) (made : Made) → MovesBy w made → MovesBy w (refused_or o made)
unless w None made h = h
unless w (Some e) made h = refuses w e

commits : (w u : World) (r : Reply) (us : List Mutation) → u.mutations ≡ w.mutations → u.compacted ≡ w.compacted
    → AtMain (revision w + 1) us → MovesBy w (commit r u us)
commits w u r [] e f at = rests w u r e f
commits w u r (m ∷ ms) e f at = by (nat_lt (revision u) last_main)
  where
    by : (b : Bool) → MovesBy w (cond b (Ok (r, record u { mutations = u.mutations ++ m ∷ ms })) (Err RevisionsSpent))
    by true = record { moves = inl (record { changes = m ∷ ms; mutations = ap (λ l. l ++ m ∷ ms) e; at = at; compacted = f }) }
    by false = refuses w RevisionsSpent

compacts : (w : World) (r : ℤ) → MovesBy w (compact_in w r)
unfolding compact_in
compacts w (negsuc n) = refuses w (Compacted w.compacted)
compacts w (pos r) = by (r == 0) (nat_le r w.compacted) refl (nat_lt (revision w) r)
  where
    by : (zero low : Bool) → nat_le r w.compacted ≡ low → (high : Bool)
        → MovesBy w (refused_or (cond (zero || low) (Some (Compacted w.compacted)) (refuse_if high (Future (revision w))))
        (Ok (Reply.compact, record w { compacted = r })))
    by true low e high = refuses w (Compacted w.compacted)
    by false true e high = refuses w (Compacted w.compacted)
    by false false e true = refuses w (Future (revision w))
    by false false e false = record { moves = inr (record { mutations = refl; up = lt-ltb w.compacted r (leb-false r w.compacted e) }) }

keeps_alive : (w : World) (id : ℤ) (o : Option Lease) → MovesBy w (keep_alive_in w id o)
unfolding keep_alive_in
keeps_alive w id None = rests w _ _ refl refl
keeps_alive w id (Some l) = rests w _ _ refl refl

shows_time : (w : World) (id : ℤ) (asked : Bool) (o : Option Lease) → MovesBy w (time_to_live_in w id asked o)
unfolding time_to_live_in
shows_time w id asked None = rests w _ _ refl refl
shows_time w id asked (Some l) = rests w _ _ refl refl

runs : (w : World) (path : Path) → MovesBy w (run_path w path)
unfolding run_path
runs w path = unless w _ _ (commits w w _ _ refl refl (effect_at (versions w) (revision w + 1) 0 path))

revokes : (w : World) (id : ℤ) → MovesBy w (revoke_in w id)
unfolding revoke_in
revokes w id = unless w _ _ (commits w _ _ _ refl refl (deletes_at (revision w + 1) 0 _))

moves : (w : World) (call : Call) → MovesBy w (made_in w call)
unfolding range_in put_in delete_in txn_in watch_in grant_in
moves w (Call.range q) = unless w _ _ (rests w _ _ refl refl)
moves w (Call.put p) = unless w _ _ (commits w w (Reply.put (previous_value p.prev_kv (value_at (versions w) (end_of (revision w)) p.key)))
    (put_change (versions w) (revision w + 1) 0 p ∷ []) refl refl (refl, tt))
moves w (Call.delete d) = unless w _ _ (commits w _ _ _ refl refl (deletes_at (revision w + 1) 0 _))
moves w (Call.txn cs s f) = unless w _ _ (runs w _)
moves w (Call.compact r physical) = compacts w r
moves w (Call.watch watched start id) = unless w _ _ (rests w _ _ refl refl)
moves w (Call.grant ttl id) = unless w _ _ (rests w _ _ refl refl)
moves w (Call.revoke id) = revokes w id
moves w (Call.keep_alive id) = keeps_alive w id (lease_at w.leases id)
moves w (Call.time_to_live id asked) = shows_time w id asked (lease_at w.leases id)
moves w Call.leases = rests w _ _ refl refl

pub command_moves : (w : World) (call : Call) → Moves w (perform w call).1
command_moves w call = (moves w call).moves

-- ---- and so does a step of expiry

expires : (w : World) (o : Option Lease) → Moves w (expire_at w o).1
expires w None = stays w w refl refl
expires w (Some l) = by (revoke_in w l.id) (revokes w l.id)
  where
    by : (made : Made) → MovesBy w made → Moves w (expiry_of l.id w made).1
    by (Ok made) h = h.moves
    by (Err e) h = h.moves

pub expiry_moves : (w : World) → Moves w (expire w).1
expiry_moves w = expires w (due w.clock w.leases)

-- What a sink is told of a change, in each world that the core stood for, and what is kept after it.
use Rattle.std.proofs.Common.{◌≡◌, ◌⊎◌, inl, inr, ℕ, ℤ, ◌<◌, List, [], ◌∷◌, ◌++◌, length, Bool, cond, Option, None, Some}
use Rattle.std.proofs.Common.{false, Ok, Err, refl, sym, ◌∙◌, ap, subst, arith}
use Rattle.std.specs.Prelude.{nat_lt, fold, option_map}
use Rattle.std.proofs.lemmas.Bool.{le-ltb, lt-ltb}
use Rattle.std.proofs.lemmas.List.{append-nil, drop_all}
use Rattle.kv_model.specs.declared.refusal.Refusal.{Refusal}
use Rattle.kv_model.specs.declared.version.Version.{Version}
use Rattle.kv_model.specs.Calls.{Call}
use Rattle.kv_model.specs.Feed.{Published}
use Rattle.kv_model.specs.Leases.{Lease, due}
use Rattle.kv_model.specs.Step.{Made, at_least_zero, compact_refusal, expire, expire_at, made_in, perform, refused_or, world_of}
use Rattle.kv_model.specs.Told.{Reply}
use Rattle.kv_model.specs.World.{World, added, versions}
use Rattle.store_laws.specs.Changes.{Takes, batch_of, change_between, change_of, change_of_expiry}
use Rattle.store_laws.specs.FeedLaws.{GoesAlong}
use Rattle.store_laws.specs.Snapshots.{absorb, trimmed_once}
use Rattle.trim_core.specs.declared.trimmer.Trim.{Trim}
use Rattle.store_laws.specs.Stands.{Store, StandsFor}
use Rattle.store_laws.specs.Trimming.{oldest_place}
use Rattle.store_laws.proofs.ChangeLaws.{change_added, change_floor, command_stored, expiry_stored}
use Rattle.store_laws.proofs.CompactLaws.{compact_told, compact_within}
use Rattle.store_laws.proofs.StandsLeases.{due_stands}
use Rattle.store_laws.proofs.MoveLaws as model
use Rattle.store_laws.proofs.MoveLaws.{command_moves, expiry_moves}
use Rattle.request_core.specs.declared.answer.Expiry.{Expiry}
use Rattle.request_core.specs.declared.answer.Receipt.{Receipt}
use Rattle.request_core.specs.declared.answer.Todo.{Todo}
use Rattle.request_core.specs.State.{CoreState, IsTold, IsToldOf, added_by, added_by_revoke, counted, due_in, floor_by, tables_of, with_any}
use Rattle.request_core.specs.Answers.{has_changed}
use Rattle.request_core.specs.Commands.{AddsVersions, CarriesOut, Does, IsToldChange, StartsOver, TrimsOnce}
use Rattle.request_core.proofs.Revokes.{WasExpired, lease-expires, revoke-moves}
use Rattle.request_core.proofs.Worlds.{behind-same, keeps_worlds}

-- ---- a change in one world

told-batch : {X : Type 0} (takes : X → Published → X → Type 0) (vs : List Version) (f g : X) → IsTold takes vs f g
    → Takes takes (batch_of vs) f g
told-batch takes [] f g h = h
told-batch takes (v ∷ vs) f g h = h

-- from a core that stood for the first world to one that stands for the second
record Goes (old new : CoreState) (w u : World) : Type 0 where
  stood : StandsFor old.store w
  stands : StandsFor new.store u
  moves : model.Moves w u
  keeps : AddsVersions old new ⊎ StartsOver old new

-- what is added to the core is added to the world
goes_added : (old new : CoreState) (w u : World) → Goes old new w u → new.store.versions ≡ old.store.versions ++ added w u
goes_added old new w u g = ap (λ k. k.kept) (keeps_worlds old new w u g.keeps g.stood g.stands g.moves)

goes_along : (old new : CoreState) (w u : World) → Goes old new w u → GoesAlong old.store new.store old.place new.place w u
goes_along old new w u g = record { stood = g.stood; stands = g.stands; versions = goes_added old new w u g; place = place g.keeps }
  where
    place : AddsVersions old new ⊎ StartsOver old new → new.place ≡ cond (nat_lt w.compacted u.compacted) oldest_place old.place
    place (inl a) = a.place ∙ ap (λ b. cond b oldest_place old.place)
        (sym (le-ltb w.compacted u.compacted (omega (arith, a.compacted, g.stood.compacted, g.stands.compacted))))
    place (inr c) = c.place ∙ ap (λ b. cond b oldest_place old.place)
        (sym (lt-ltb w.compacted u.compacted (omega (arith, c.up, g.stood.compacted, g.stands.compacted))))

-- versions were added, and the sink was told of them
tells_added : {X : Type 0} (takes : X → Published → X → Type 0) (old new : CoreState) (w u : World) (vs : List Version) (f g : X)
    → Goes old new w u → new.store.versions ≡ old.store.versions ++ vs → new.store.compacted ≡ old.store.compacted
    → IsTold takes vs f g → Takes takes (change_between w u) f g
tells_added takes old new w u vs f g go grows floors told =
    let same : u.compacted ≡ w.compacted = sym go.stands.compacted ∙ floors ∙ go.stood.compacted in
    let is : vs ≡ added w u
    = behind-same old.store.versions vs (added w u) (sym grows ∙ goes_added old new w u go) in
    subst (λ ops. Takes takes ops f g) (sym (change_added w u same))
    (subst (λ xs. Takes takes (batch_of xs) f g) is (told-batch takes vs f g told))

-- the compaction rose, and the sink was told of it
tells_floor : {X : Type 0} (takes : X → Published → X → Type 0) (old new : CoreState) (w u : World) (n : ℕ) (f g : X)
    → Goes old new w u → old.store.compacted < n → new.store.compacted ≡ n → takes f (Published.floor n) g
    → Takes takes (change_between w u) f g
tells_floor takes old new w u n f g go up floors told =
    let is : u.compacted ≡ n = sym go.stands.compacted ∙ floors in
    subst (λ ops. Takes takes ops f g)
    (sym (change_floor w u (lt-ltb w.compacted u.compacted (omega (arith, up, is, go.stood.compacted)))))
    (subst (λ m. takes f (Published.floor m) g) (sym is) told)

-- ---- a command

-- a command that is carried out, and then counted, and what the sink was told
pub record IsTelling {X : Type 0} (takes : X → Published → X → Type 0) (old new : CoreState) (call : Call) (f g : X) : Type 0 where
  pub between : CoreState
  pub left : Todo
  pub carried : CarriesOut old between call left
  pub grows : between.store.versions ≡ old.store.versions ++ added_by old.store call
  pub floors : between.store.compacted ≡ floor_by old.store call
  pub told : IsToldOf takes old.store call f g
  pub changed : Bool
  pub counts : new ≡ counted changed between

goes : {X : Type 0} (takes : X → Published → X → Type 0) (old new : CoreState) (call : Call) (f g : X) (x : IsTelling takes old new call f g)
    (w : World) → StandsFor old.store w → Goes old x.between w (perform w call).1
goes takes old new call f g x w h =
    let m = x.carried.makes w h in
    let after : m.after ≡ (perform w call).1 = sym (ap (λ (made : Made). world_of w made) m.made) in
    record {
      stood = h;
      stands = subst (λ u. StandsFor x.between.store u) after m.stands;
      moves = command_moves w call;
      keeps = x.carried.moves.keeps;
    }

made-refused : {A : Type 0} (m : Made) (f : Refusal) (x : Reply × World) → m ≡ Err f → m ≡ Ok x → A
made-refused (Ok y) f x e h = cc
made-refused (Err g) f x e h = cc

-- an accepted Compact rises
compact_up : (s : Store) (w : World) (r : ℤ) (physical : Bool) (told : Reply) (after : World) → StandsFor s w
    → made_in w (Call.compact r physical) ≡ Ok (told, after) → s.compacted < at_least_zero r
compact_up s w r physical told after h made = by (compact_refusal s.compacted s.revision r) refl
  where
    by : (o : Option Refusal) → compact_refusal s.compacted s.revision r ≡ o → s.compacted < at_least_zero r
    by None e = (compact_within s.compacted s.revision r e).0
    by (Some f) e = made-refused (made_in w (Call.compact r physical)) f (told, after)
        (compact_told s w h r physical ∙ ap (λ o. refused_or o (Ok (Reply.compact, record w { compacted = at_least_zero r }))) e) made

tells : {X : Type 0} (takes : X → Published → X → Type 0) (old new : CoreState) (call : Call) (f g : X) (x : IsTelling takes old new call f g)
    (w : World) (h : StandsFor old.store w) → Goes old x.between w (perform w call).1 → Takes takes (change_of w call) f g
tells takes old new (Call.compact r physical) f g x w h go =
    let m = x.carried.makes w h in
    tells_floor takes old x.between w _ (at_least_zero r) f g go (compact_up old.store w r physical _ m.after h m.made) x.floors x.told
tells takes old new (Call.range q) f g x w h go = tells_added takes old x.between w _ _ f g go x.grows x.floors x.told
tells takes old new (Call.put p) f g x w h go = tells_added takes old x.between w _ _ f g go x.grows x.floors x.told
tells takes old new (Call.delete d) f g x w h go = tells_added takes old x.between w _ _ f g go x.grows x.floors x.told
tells takes old new (Call.txn cs ts es) f g x w h go = tells_added takes old x.between w _ _ f g go x.grows x.floors x.told
tells takes old new (Call.watch r s i) f g x w h go = tells_added takes old x.between w _ _ f g go x.grows x.floors x.told
tells takes old new (Call.grant t i) f g x w h go = tells_added takes old x.between w _ _ f g go x.grows x.floors x.told
tells takes old new (Call.revoke i) f g x w h go = tells_added takes old x.between w _ _ f g go x.grows x.floors x.told
tells takes old new (Call.keep_alive i) f g x w h go = tells_added takes old x.between w _ _ f g go x.grows x.floors x.told
tells takes old new (Call.time_to_live i b) f g x w h go = tells_added takes old x.between w _ _ f g go x.grows x.floors x.told
tells takes old new Call.leases f g x w h go = tells_added takes old x.between w _ _ f g go x.grows x.floors x.told

pub command_told : {X : Type 0} (takes : X → Published → X → Type 0) (old new : CoreState) (call : Call) (f g : X)
    → IsTelling takes old new call f g → (w : World) → StandsFor old.store w → Takes takes (change_of w call) f g
command_told takes old new call f g x w h = tells takes old new call f g x w h (goes takes old new call f g x w h)

pub command_kept : {X : Type 0} (takes : X → Published → X → Type 0) (old new : CoreState) (call : Call) (f g : X)
    → IsTelling takes old new call f g → (w : World) → StandsFor old.store w
    → tables_of new ≡ fold absorb (tables_of old) (change_of w call)
command_kept takes old new call f g x w h = ap tables_of x.counts
    ∙ command_stored old.store x.between.store old.place x.between.place w call
    (goes_along old x.between w (perform w call).1 (goes takes old new call f g x w h))

-- ---- a step of expiry

none-due : (o : Option Lease) → option_map (λ (l : Lease). l.id) o ≡ None → o ≡ None
none-due None e = refl
none-due (Some l) e = cc

-- no lease is due
expiry_none : (s : CoreState) (w : World) → StandsFor s.store w → due_in s.store ≡ None → change_of_expiry w ≡ []
expiry_none s w h none =
    ap (λ o. change_between w (expire_at w o).1) (sym (due_stands s.store w h) ∙ none-due (due s.store.clock s.store.leases) none)
    ∙ change_added w w refl ∙ ap batch_of (drop_all (length (versions w)) (versions w) (omega arith))

pub none_told : {X : Type 0} (takes : X → Published → X → Type 0) (s : CoreState) (f : X) → due_in s.store ≡ None
    → (w : World) → StandsFor s.store w → Takes takes (change_of_expiry w) f f
none_told takes s f none w h = subst (λ ops. Takes takes ops f f) (sym (expiry_none s w h none)) refl

pub none_kept : (s : CoreState) → due_in s.store ≡ None → (w : World) → StandsFor s.store w
    → tables_of s ≡ fold absorb (tables_of s) (change_of_expiry w)
none_kept s none w h = sym (ap (fold absorb (tables_of s)) (expiry_none s w h none))

any-versions : (s : CoreState) (vs : List Version) → (with_any s vs).store.versions ≡ s.store.versions ++ vs
any-versions s [] = sym (append-nil s.store.versions)
any-versions s (v ∷ vs) = refl

any-compacted : (s : CoreState) (vs : List Version) → (with_any s vs).store.compacted ≡ s.store.compacted
any-compacted s [] = refl
any-compacted s (v ∷ vs) = refl

expires : (s new : CoreState) (id : ℤ) (e : Expiry) (x : WasExpired s new id e) (w : World) → StandsFor s.store w
    → Goes s x.revoked w (expire w).1
expires s new id e x w h = record {
  stood = h;
  stands = (lease-expires s x.revoked id x.keys x.was x.due_is w h).1;
  moves = expiry_moves w;
  keeps = (revoke-moves s x.revoked id x.keys x.was).keeps;
}

pub expiry_told : {X : Type 0} (takes : X → Published → X → Type 0) (s new : CoreState) (id : ℤ) (e : Expiry) (f g : X)
    → WasExpired s new id e → IsTold takes (added_by_revoke s.store id) f g
    → (w : World) → StandsFor s.store w → Takes takes (change_of_expiry w) f g
expiry_told takes s new id e f g x told w h =
    tells_added takes s x.revoked w (expire w).1 (added_by_revoke s.store id) f g (expires s new id e x w h)
    (ap (λ (t : CoreState). t.store.versions) x.was.made ∙ any-versions s (added_by_revoke s.store id))
    (ap (λ (t : CoreState). t.store.compacted) x.was.made ∙ any-compacted s (added_by_revoke s.store id)) told

pub expiry_kept : (s new : CoreState) (id : ℤ) (e : Expiry) → WasExpired s new id e → (w : World) → StandsFor s.store w
    → tables_of new ≡ fold absorb (tables_of s) (change_of_expiry w)
expiry_kept s new id e x w h = ap tables_of x.counts
    ∙ expiry_stored s.store x.revoked.store s.place x.revoked.place w
    (goes_along s x.revoked w (expire w).1 (expires s new id e x w h))

-- ---- where the sink is told nothing of it

-- an accepted command that changed nothing: the sink is as it was
pub untold_same : {X : Type 0} (takes : X → Published → X → Type 0) (old new : CoreState) (call : Call) (r : Receipt) (f g : X)
    → Does old new call r → has_changed r ≡ false → IsToldChange takes old.store call f g → (w : World) → StandsFor old.store w → g ≡ f
untold_same takes old new call r f g d none told w h =
    let u : World = (perform w call).1 in
    let a = d.accepted w h in
    let same : new ≡ old = d.unchanged none in
    let floor : u.compacted ≡ w.compacted
    = sym a.stands.compacted ∙ ap (λ (s : CoreState). s.store.compacted) same ∙ h.compacted in
    let nothing : [] ≡ added w u
    = behind-same old.store.versions [] (added w u)
    (append-nil old.store.versions ∙ sym (ap (λ (s : CoreState). s.store.versions) same) ∙ ap (λ k. k.kept) a.keeps) in
    subst (λ ops. Takes takes ops f g) (change_added w u floor ∙ ap batch_of (sym nothing)) (told w h)

-- a trimming step is made of what is kept
pub trim_stored : (old new : CoreState) (t : Trim) → TrimsOnce old new t → tables_of new ≡ trimmed_once (tables_of old)
trim_stored old new t x = ap tables_of x.left

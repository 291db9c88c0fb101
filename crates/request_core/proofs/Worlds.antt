-- What a core does, in each world that it stands for.
use Rattle.std.proofs.Common.{◌≡◌, ◌≢◌, ◌⊎◌, inl, inr, ℕ, ◌+◌, ◌<◌, ◌≤◌, List, [], ◌∷◌, ◌++◌, map, Bool, true, false, ◌&&◌, cond, not, Option, None, Some}
use Rattle.std.proofs.Common.{Result, Ok, Err, refl, sym, ◌∙◌, ap, subst, arith}
use Rattle.std.specs.Prelude.{nat_lt, is_some, ◌||◌, MatchBool, IfErr}
use Rattle.std.specs.Option.{option_or}
use Rattle.std.proofs.lemmas.Bool.{lt-ltb, le-ltb, ltb-true, ltb-false}
use Rattle.kv_model.specs.declared.refusal.Refusal.{Refusal}
use Rattle.kv_model.specs.declared.refusal.Refusal.TheVariants.{RevisionsSpent}
use Rattle.kv_model.specs.declared.version.Version.{Version}
use Rattle.kv_model.specs.History.{Mutation, now_after}
use Rattle.kv_model.specs.Lists.{is_empty}
use Rattle.kv_model.specs.Ranges.{refuse_if}
use Rattle.kv_model.specs.Calls.{Call}
use Rattle.kv_model.specs.Txns.{extend_all, added_by}
use Rattle.kv_model.specs.Told.{Answer, Reply}
use Rattle.kv_model.specs.Wire.{raised, number_made}
use Rattle.kv_model.specs.World.{World, revision, changed}
use Rattle.kv_model.specs.Step.{Made, last_main, made_in, perform, refused_or, commit_at, world_of, answer_of as answer_of_made}
use Rattle.store_laws.specs.Stands.{Store, StandsFor, grown_noted, noted}
use Rattle.store_laws.proofs.BatchLaws.{extend_all-added}
use Rattle.store_laws.proofs.StandsCommands.{answer_refused}
use Rattle.store_laws.proofs.PlaceLaws.{each-map}
use Rattle.store_laws.proofs.MoveLaws as model
use Rattle.store_laws.proofs.MoveLaws.{command_moves}
use Rattle.store_laws.proofs.KeepingLaws.{adds_kept, rises_kept}
use Rattle.store_laws.specs.TrimmingLaws.{keeping}
use Rattle.kv_model.specs.Headline.{kept_after}
use Rattle.std.specs.List.{AllByRecursion}
use Rattle.std.proofs.lemmas.List.{append-nil}
use Rattle.request_core.specs.declared.answer.Receipt.{Receipt}
use Rattle.request_core.specs.declared.answer.Todo.{Todo}
use Rattle.request_core.specs.State.{CoreState, counted, is_spent, keeping_of, raised_from, stamp_after, with_any, with_versions}
use Rattle.request_core.specs.Answers.{IsAllowed, IsFault, IsFirst, IsRefusal, answer_of, has_changed, is_beside, is_memory, reply_left, watch_of}
use Rattle.request_core.specs.Commands.{AddsVersions, CarriesOut, Does, IsIssued, IsToldFreely, Moves, Refuses, RefusesTo, StartsOver, first_refusal}

-- ---- the first of two refusals

pub not-spent : (r : ℕ) → refuse_if (is_spent r) RevisionsSpent ≡ None → r < last_main
not-spent r e = by (nat_lt r last_main) refl e
  where
    by : (b : Bool) → nat_lt r last_main ≡ b → refuse_if (not b) RevisionsSpent ≡ None → r < last_main
    by true h e = ltb-true r last_main h
    by false h e = cc

pub spent-by : (r : ℕ) (e : Refusal) → refuse_if (is_spent r) RevisionsSpent ≡ Some e → (last_main ≤ r) × (RevisionsSpent ≡ e)
spent-by r e one = by (nat_lt r last_main) refl one
  where
    by : (b : Bool) → nat_lt r last_main ≡ b → refuse_if (not b) RevisionsSpent ≡ Some e → (last_main ≤ r) × (RevisionsSpent ≡ e)
    by true t one = cc
    by false t one = let same : RevisionsSpent ≡ e = cc in (ltb-false r last_main t, same)

-- ---- the receipt of a command that is carried out

raised-rose : (m n : ℕ) → is_some (raised_from m n) ≡ nat_lt m n
raised-rose m n = by (nat_lt m n)
  where
    by : (b : Bool) → is_some (cond b (Some n) None) ≡ b
    by true = refl
    by false = refl

-- a number that has stayed did not rise
pub none-raised : (n : ℕ) → raised_from n n ≡ None
none-raised n = ap (λ b. cond b (Some n) None) (le-ltb n n (omega arith))

-- a receipt tells of a change where there was one
receipt-tells : (old mid new : CoreState) (t : Todo) (r : Receipt) → IsIssued old.store.revision t mid new r
    → has_changed r ≡ (nat_lt old.store.revision mid.store.revision || is_beside t)
receipt-tells old mid new t r i =
    λ j. (ap is_some i.raised ∙ raised-rose old.store.revision mid.store.revision) j || is_beside (i.todo j)

-- in worlds that a core stands for before and after a move of the model, it keeps what the model keeps
pub keeps_worlds : (old new : CoreState) (w u : World) → AddsVersions old new ⊎ StartsOver old new → StandsFor old.store w
    → StandsFor new.store u → model.Moves w u → keeping_of new ≡ kept_after w u (keeping_of old)
keeps_worlds old new w u (inl a) h k m = ap (λ p. keeping new.store.versions p new.store.compacted) a.place
    ∙ adds_kept old.store new.store w u old.place a.added h k m a.versions a.above a.compacted
keeps_worlds old new w u (inr c) h k m = ap (λ p. keeping new.store.versions p new.store.compacted) c.place
    ∙ rises_kept old.store new.store w u old.place h k m c.versions c.up

-- a command that is carried out, and then counted and told by its receipt
pub record IsFinished (old new : CoreState) (call : Call) (r : Receipt) : Type 0 where
  pub between : CoreState
  pub left : Todo
  pub carried : CarriesOut old between call left
  pub issued : IsIssued old.store.revision left between new r

pub does : (old new : CoreState) (call : Call) (r : Receipt) → IsFinished old new call r → Does old new call r
does old new call r f =
    let mid : CoreState = f.between in
    let t : Todo = f.left in
    let d : CarriesOut old mid call t = f.carried in
    let i : IsIssued old.store.revision t mid new r = f.issued in
    let same : new.store ≡ mid.store = ap (λ (s : CoreState). s.store) i.counts in
    let rev : r.revision ≡ mid.store.revision = i.revision ∙ ap (λ (s : Store). s.revision) same in
    let left : answer_of r new ≡ record { reply = reply_left t mid.store mid.store.revision; revision = mid.store.revision }
    = λ j. record { reply = reply_left (i.todo j) (same j) (rev j); revision = rev j } in
    record {
      accepted = λ w h.
          let m = d.makes w h in
          let all : perform w call ≡ (
            Ok (record { reply = reply_left t mid.store mid.store.revision; revision = revision m.after }),
            m.after,
          ) = ap (λ m. (answer_of_made m, world_of w m)) m.made in
          let after : m.after ≡ (perform w call).1 = sym (ap (λ x. x.1) all) in
          record {
            answers = ap (λ x. x.0) all
                ∙ sym (ap (λ a. Ok a)
                (left ∙ ap (λ n. record { reply = reply_left t mid.store mid.store.revision; revision = n }) m.stands.revision_is));
            stands = subst (λ u. StandsFor new.store u) after (subst (λ s. StandsFor s m.after) (sym same) m.stands);
            keeps = ap keeping_of i.counts
                ∙ keeps_worlds old mid w (perform w call).1 d.moves.keeps h (subst (λ u. StandsFor mid.store u) after m.stands)
                (command_moves w call);
            raised = i.raised ∙ (λ j. raised_from (h.revision_is j) (m.stands.revision_is j)) ∙ ap (λ u. raised w u) after;
            watch = i.watch ∙ sym d.moves.watches ∙ (λ j. raised_from (h.made j) (m.stands.made j)) ∙ ap (λ u. number_made w u) after;
          };
      readable = record {
        stamp = i.stamp;
        revision = i.revision;
        allowed = subst (λ (u : Todo). IsAllowed u new.store) (sym i.todo) (subst (λ s. IsAllowed t s) (sym same) d.allowed);
      };
      unchanged = λ none. i.counts ∙ ap (λ b. counted b mid) none
          ∙ d.moves.unchanged (sym (receipt-tells old mid new t r i) ∙ none);
      stamp = ap (λ (s : CoreState). s.stamp) i.counts ∙ ap (λ n. stamp_after (has_changed r) n) d.moves.stamp;
      watch = i.watch ∙ ap watch_of (sym i.todo);
      beside = λ w h. ap is_beside i.todo ∙ d.beside w h;
    }

-- ---- what is kept

-- nothing is added, and trimming is where it was
pub rests : (s new : CoreState) → new.store.versions ≡ s.store.versions → new.store.compacted ≡ s.store.compacted → new.place ≡ s.place
    → AddsVersions s new ⊎ StartsOver s new
rests s new e c p = inl (record {
  added = [];
  versions = e ∙ sym (append-nil s.store.versions);
  above = tt;
  compacted = c;
  place = p;
})

-- something changed besides the versions
pub changed-beside : {X : Type 0} {x y : X} (b : Bool) → (b || true) ≡ false → x ≡ y
changed-beside true e = let bad : true ≡ false = e in cc
changed-beside false e = let bad : true ≡ false = e in cc

-- a command that is only read for its answer
pub read_moves : (s : CoreState) (b : Bool) → Moves s s b None
read_moves s b = record { keeps = rests s s refl refl refl; unchanged = λ none. refl; stamp = refl; watches = none-raised s.store.made }

-- ---- changes that are committed

-- versions of one revision
abbrev pub AreAt : ℕ → List Version → Type 0
AreAt revision vs = AllByRecursion (λ v. v.rev.main ≡ revision) vs

-- those of the next one are added
pub any_adds : (s : CoreState) (vs : List Version) → AreAt (s.store.revision + 1) vs → AddsVersions s (with_any s vs) ⊎ StartsOver s (with_any s vs)
any_adds s [] at = rests s s refl refl refl
any_adds s (v ∷ vs) at = inl (record {
  added = v ∷ vs;
  versions = refl;
  above = each-map (λ x. x.rev.main ≡ s.store.revision + 1) (λ x. s.store.revision < x.rev.main) (λ x e. omega arith) (v ∷ vs) at;
  compacted = refl;
  place = refl;
})

-- where versions were appended, the revision rose
pub any_moves : (s : CoreState) (vs : List Version) (b : Bool) → AreAt (s.store.revision + 1) vs → Moves s (with_any s vs) b None
any_moves s [] b at = read_moves s b
any_moves s (v ∷ vs) b at = record {
  keeps = any_adds s (v ∷ vs) at;
  unchanged = λ none.
      let bad : true ≡ false
      = ap (λ c. c || b) (sym (lt-ltb s.store.revision (s.store.revision + 1) (omega arith))) ∙ none in cc;
  stamp = refl;
  watches = none-raised s.store.made;
}

-- a list is told by what stands before it and the two together
pub behind-same : {X : Type 0} (xs ys zs : List X) → xs ++ ys ≡ xs ++ zs → ys ≡ zs
behind-same [] ys zs e = e
behind-same (x ∷ xs) ys zs e = behind-same xs ys zs (cc)

-- changes that add these versions as the next revision, of which the watches take note
pub grows_by : (s : CoreState) (us : List Mutation) (vs : List Version) → extend_all s.store.versions us ≡ s.store.versions ++ vs
    → now_after s.store.revision us ≡ s.store.revision + 1 → grown_noted s.store us ≡ (with_versions s vs).store
grows_by s us vs added rose =
    let noted_of : added_by s.store.versions us ≡ vs
    = behind-same s.store.versions (added_by s.store.versions us) vs (sym (extend_all-added s.store.versions us) ∙ added) in
    λ i. record s.store { versions = added i; revision = rose i; watches = map (noted (noted_of i) (rose i)) s.store.watches }

-- the world after changes, where there are some
abbrev pub changed_by : World → List Mutation → World
changed_by w [] = w
changed_by w (u ∷ us) = changed w (u ∷ us)

-- a store grows by changes, where there are some, in a world that it stands for
pub record Commits (s new : Store) (us : List Mutation) (w : World) : Type 0 where
  pub stood : StandsFor s w
  pub stands : StandsFor (grown_noted s us) (changed w us)
  pub grows : us ≢ [] → grown_noted s us ≡ new
  pub stays : us ≡ [] → s ≡ new

pub committed : (s new : Store) (us : List Mutation) (w : World) → Commits s new us w → StandsFor new (changed_by w us)
committed s new [] w c = subst (λ t. StandsFor t w) (c.stays refl) c.stood
committed s new (u ∷ us) w c =
    subst (λ t. StandsFor t (changed w (u ∷ us))) (c.grows (λ e. let bad : u ∷ us ≡ [] = e in cc)) c.stands

-- a command that is not refused, and one that is
pub made_first : (o p : Option Refusal) (m n : Made) → (p ≡ None → m ≡ n) → option_or o p ≡ None → refused_or o m ≡ n
made_first None p m n to none = to none
made_first (Some f) p m n to none = cc

pub refused_first : (o p : Option Refusal) (m : Made) (e : Refusal) → (p ≡ Some e → m ≡ Err e) → option_or o p ≡ Some e
    → refused_or o m ≡ Err e
refused_first None p m e to one = to one
refused_first (Some f) p m e to one = let same : f ≡ e = cc in ap (λ f. Err f) same

-- what the model makes of changes that have room
pub commit_made : (n : ℕ) (told : Reply) (w : World) (us : List Mutation)
    → refuse_if (not (is_empty us) && is_spent n) RevisionsSpent ≡ None → commit_at n told w us ≡ Ok (told, changed_by w us)
commit_made n told w [] e = refl
commit_made n told w (u ∷ us) e =
    ap (λ b. cond b (Ok (told, changed w (u ∷ us))) (Err RevisionsSpent)) (lt-ltb n last_main (not-spent n e))

pub commit_spent : (n : ℕ) (told : Reply) (w : World) (us : List Mutation) (e : Refusal)
    → refuse_if (not (is_empty us) && is_spent n) RevisionsSpent ≡ Some e → commit_at n told w us ≡ Err e
commit_spent n told w [] e one = cc
commit_spent n told w (u ∷ us) e one =
    let spent = spent-by n e one in
    ap (λ b. cond b (Ok (told, changed w (u ∷ us))) (Err RevisionsSpent)) (le-ltb n last_main spent.0) ∙ ap (λ f. Err f) spent.1

-- ---- what is refused

is-refusal : (e : Refusal) (told : Result Answer Refusal) (o : Option Refusal) → IsRefusal e o
    → ((f : Refusal) → o ≡ Some f → told ≡ Err f) → IsRefusal e (first_refusal told)
is-refusal e told o h to = by (is_memory e) h
  where
    by : (b : Bool) → MatchBool b (Unit {0}) (o ≡ Some e) → MatchBool b (Unit {0}) (first_refusal told ≡ Some e)
    by true h = tt
    by false h = ap first_refusal (to e h)

-- a refused command is refused by the model, or wants memory
pub is_refused : (w : World) (call : Call) (e : Refusal) (o : Option Refusal) → IsRefusal e o
    → ((f : Refusal) → o ≡ Some f → made_in w call ≡ Err f) → IsRefusal e (first_refusal (perform w call).0)
is_refused w call e o h to = is-refusal e (perform w call).0 o h (λ f one. ap (λ x. x.0) (answer_refused w call f (to f one)))

-- the refusal that a command has
pub own_refusal : (e : Refusal) → IsRefusal e (Some e)
own_refusal e = by (is_memory e)
  where
    by : (b : Bool) → MatchBool b (Unit {0}) (Some e ≡ Some e)
    by true = tt
    by false = refl

-- one that is told by what comes before memory is asked for is the first one, or wants memory
pub fault_refusal : (e : Refusal) (o : Option Refusal) → IsFault e o → IsRefusal e o
fault_refusal e o (inl h) = subst (IsRefusal e) (sym h) (own_refusal e)
fault_refusal e o (inr h) = subst (λ f. IsRefusal f o) (sym h.1) tt

pub first_or_later : (e : Refusal) (o all : Option Refusal) → (o ≡ Some e → all ≡ Some e) → IsFirst e o all → IsRefusal e all
first_or_later e o all to (inl h) = subst (IsRefusal e) (sym (to h)) (own_refusal e)
first_or_later e o all to (inr h) = h.1

-- ---- what is refused before memory is asked for

same-some : (e f : Refusal) → Some e ≡ Some f → e ≡ f
same-some e f h = cc

none-some : {X : Type 0} {x y : X} (f : Refusal) (o : Option Refusal) → o ≡ None → o ≡ Some f → x ≡ y
none-some f o none one = let bad : None ≡ Some f = sym none ∙ one in cc

-- the fault that comes before memory is asked for is told
pub fault_told : (e f : Refusal) (o all : Option Refusal) → IsFirst e o all → o ≡ Some f → e ≡ f
fault_told e f o all (inl h) one = same-some e f (sym h ∙ one)
fault_told e f o all (inr h) one = none-some f o h.0 one

-- and so is the refusal of the model, where each of them comes before
pub refusal_told : (w : World) (call : Call) (e f : Refusal) (o : Option Refusal) → first_refusal (perform w call).0 ≡ o → IsFault e o
    → first_refusal (perform w call).0 ≡ Some f → e ≡ f
refusal_told w call e f o is (inl h) one = same-some e f (sym h ∙ sym is ∙ one)
refusal_told w call e f o is (inr h) one = none-some f o h.0 (sym is ∙ one)

-- the first refusal of what the model makes
pub made_refused : (o : Option Refusal) (m : Reply × World) → first_refusal (answer_of_made (refused_or o (Ok m))) ≡ o
made_refused None m = refl
made_refused (Some f) m = refl

pub commit_refused : (o : Option Refusal) (n : ℕ) (told : Reply) (w : World) (u : Mutation)
    → first_refusal (answer_of_made (refused_or o (commit_at n told w (u ∷ [])))) ≡ option_or o (refuse_if (is_spent n) RevisionsSpent)
commit_refused (Some f) n told w u = refl
commit_refused None n told w u = by (nat_lt n last_main)
  where
    by : (b : Bool) → first_refusal (answer_of_made (cond b (Ok (told, changed w (u ∷ []))) (Err RevisionsSpent)))
        ≡ refuse_if (not b) RevisionsSpent
    by true = refl
    by false = refl

-- ---- over a sink

pub refuses_to : (never : Type 0) (old new : CoreState) (call : Call) (e : Refusal) → Refuses old new call e
    → RefusesTo never old new call e
refuses_to never old new call e r = record { first = r.first; refused = r.refused; free = λ no _. r.free no; kept = r.kept }

-- what a command is refused for that never asks whether the sink fails
pub refuses_over : {X : Type 0} (never : Type 0) (old new : CoreState) (own call : Call) (r : Result X Refusal) → own ≡ call
    → IfErr r (λ e. Refuses old new own e) → IfErr r (λ e. RefusesTo never old new call e)
refuses_over never old new own call (Ok x) same h = tt
refuses_over never old new own call (Err e) same h = refuses_to never old new call e (subst (λ m. Refuses old new m e) same h)

told-freely : (call : Call) → IsToldFreely (Unit {0}) call
told-freely (Call.range q) = tt
told-freely (Call.put p) = tt
told-freely (Call.delete d) = tt
told-freely (Call.txn compares success failure) = tt
told-freely (Call.compact r physical) = tt
told-freely (Call.watch watched start id) = tt
told-freely (Call.grant ttl id) = tt
told-freely (Call.revoke id) = tt
told-freely (Call.keep_alive id) = tt
told-freely (Call.time_to_live id asked) = tt
told-freely Call.leases = tt

-- over the sink that takes everything
pub refuses_alone : {X : Type 0} (old new : CoreState) (call : Call) (r : Result X Refusal)
    → IfErr r (λ e. RefusesTo (Unit {0}) old new call e) → IfErr r (λ e. Refuses old new call e)
refuses_alone old new call (Ok x) h = tt
refuses_alone old new call (Err e) h = record {
  first = h.first;
  refused = h.refused;
  free = λ no. h.free no (told-freely call);
  kept = h.kept;
}

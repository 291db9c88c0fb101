-- What grants, keepalives, times to live and the list of leases do, in each world that the core stands for.
use Rattle.std.proofs.Common.{◌≡◌, ℕ, ℤ, List, [], ◌∷◌, Bool, true, false, cond, Option, None, Some, Ok, refl, sym, ◌∙◌, ap, subst}
use Rattle.std.specs.Prelude.{is_some, nat_lt, option_map, ◌||◌}
use Rattle.kv_model.specs.declared.refusal.Refusal.{Refusal}
use Rattle.kv_model.specs.Calls.{Call}
use Rattle.kv_model.specs.Leases.{Lease, has_id, is_granted, lease_at, insert_lease}
use Rattle.kv_model.specs.Told.{Reply}
use Rattle.kv_model.specs.World.{World}
use Rattle.kv_model.specs.Step.{made_in, refused_or, answer_of}
use Rattle.store_laws.specs.Stands.{StandsFor}
use Rattle.store_laws.specs.Stores.{refusal_of_grant, granted_lease, renewed_leases}
use Rattle.store_laws.proofs.StandsLeases.{leases_stand, grant_told, keep_alive_none, keep_alive_made, time_to_live_told, leases_told}
use Rattle.request_core.specs.declared.answer.Todo.TheVariants as todo
use Rattle.request_core.specs.State.{CoreState, after_grant, after_keep_alive, leased}
use Rattle.request_core.specs.Answers.{IsFault}
use Rattle.request_core.specs.Commands.{CarriesOut, Makes, Moves, Refuses, first_refusal}
use Rattle.request_core.proofs.Worlds.{changed-beside, none-raised, read_moves, rests, is_refused}
use Rattle.request_core.proofs.Worlds.{fault_refusal, made_refused, refusal_told}

-- a command that changes the leases alone
leases-make : (s : CoreState) (ls : List Lease) (call : Call) (told : Reply) (w : World) → StandsFor s.store w
    → made_in w call ≡ Ok (told, record w { leases = ls }) → Makes w call told (leased s ls).store
leases-make s ls call told w h made =
    record { after = record w { leases = ls }; made = made; stands = leases_stand s.store w ls h }

leases-moved : (s : CoreState) (ls : List Lease) → Moves s (leased s ls) true None
leases-moved s ls = record {
  keeps = rests s (leased s ls) refl refl refl;
  unchanged = changed-beside (nat_lt s.store.revision s.store.revision);
  stamp = refl;
  watches = none-raised s.store.made;
}

-- ---- Grant

grant-makes : (s : CoreState) (ttl id : ℤ) (w : World) → StandsFor s.store w → refusal_of_grant s.store ttl id ≡ None
    → Makes w (Call.grant ttl id) (Reply.grant (granted_lease s.store ttl id).id (granted_lease s.store ttl id).ttl)
    (after_grant s ttl id).store
grant-makes s ttl id w h none =
    let l : Lease = granted_lease s.store ttl id in
    leases-make s (insert_lease l s.store.leases) (Call.grant ttl id) (Reply.grant l.id l.ttl) w h
    (grant_told s.store w h ttl id
    ∙ ap (λ o. refused_or o (Ok (Reply.grant l.id l.ttl, record w { leases = insert_lease l s.store.leases }))) none)

-- a lease that was granted
pub record WasGranted (s new : CoreState) (ttl id given : ℤ) (seconds : ℕ) : Type 0 where
  pub clear : refusal_of_grant s.store ttl id ≡ None
  pub made : new ≡ after_grant s ttl id
  pub id_is : given ≡ (granted_lease s.store ttl id).id
  pub ttl_is : seconds ≡ (granted_lease s.store ttl id).ttl

pub grant_done : (s new : CoreState) (ttl id given : ℤ) (seconds : ℕ) → WasGranted s new ttl id given seconds
    → CarriesOut s new (Call.grant ttl id) (todo.Grant given seconds)
grant_done s new ttl id given seconds was =
    subst (λ (n : CoreState). CarriesOut s n (Call.grant ttl id) (todo.Grant given seconds)) (sym was.made) (record {
      makes = λ w h. subst (λ told. Makes w (Call.grant ttl id) told (after_grant s ttl id).store)
          (sym (λ i. Reply.grant (was.id_is i) (was.ttl_is i))) (grant-makes s ttl id w h was.clear);
      allowed = tt;
      beside = λ w h. refl;
      moves = leases-moved s (insert_lease (granted_lease s.store ttl id) s.store.leases);
    })

pub grant_refuses : (s new : CoreState) (ttl id : ℤ) (e : Refusal) → IsFault e (refusal_of_grant s.store ttl id) → new ≡ s
    → Refuses s new (Call.grant ttl id) e
grant_refuses s new ttl id e r same = record {
  first = λ w h f one. refusal_told w (Call.grant ttl id) e f (refusal_of_grant s.store ttl id)
      (ap (λ m. first_refusal (answer_of m)) (grant_told s.store w h ttl id) ∙ made_refused (refusal_of_grant s.store ttl id) _) r one;
  refused = λ w h. is_refused w (Call.grant ttl id) e (refusal_of_grant s.store ttl id)
      (fault_refusal e (refusal_of_grant s.store ttl id) r) (λ f one. grant_told s.store w h ttl id
      ∙ ap (λ o. refused_or o (Ok (
        Reply.grant (granted_lease s.store ttl id).id (granted_lease s.store ttl id).ttl,
        record w { leases = insert_lease (granted_lease s.store ttl id) s.store.leases },
      ))) one);
  free = λ no. let bad : true ≡ false = no in cc;
  kept = same;
}

-- ---- KeepAlive

-- a lease is granted where it is found
pub granted-found : (ls : List Lease) (id : ℤ) → is_granted ls id ≡ is_some (lease_at ls id)
granted-found [] id = refl
granted-found (l ∷ ls) id = by (has_id id l) (granted-found ls id)
  where
    by : (b : Bool) → is_granted ls id ≡ is_some (lease_at ls id) → (b || is_granted ls id) ≡ is_some (cond b (Some l) (lease_at ls id))
    by true e = refl
    by false e = e

abbrev ttl-of : Option Lease → Option ℕ
ttl-of o = option_map (λ (l : Lease). l.ttl) o

-- what a keepalive leaves, by the lease where it is found
kept-alive : (s : CoreState) (id : ℤ) (o : Option Lease) → lease_at s.store.leases id ≡ o
    → after_keep_alive s id ≡ cond (is_some o) (leased s (renewed_leases s.store id)) s
kept-alive s id o is = ap (λ b. cond b (leased s (renewed_leases s.store id)) s) (granted-found s.store.leases id ∙ ap is_some is)

-- a keepalive, by the lease where it is found
found-done : (s : CoreState) (id : ℤ) (o : Option Lease) → lease_at s.store.leases id ≡ o
    → CarriesOut s (after_keep_alive s id) (Call.keep_alive id) (todo.KeepAlive id (ttl-of o))
found-done s id None is =
    subst (λ (n : CoreState). CarriesOut s n (Call.keep_alive id) (todo.KeepAlive id None)) (sym (kept-alive s id None is)) (record {
      makes = λ w h. record { after = w; made = keep_alive_none s.store w h id is; stands = h };
      allowed = tt;
      beside = λ w h. sym (ap is_some (sym (ap (λ ls. lease_at ls id) h.leases) ∙ is));
      moves = read_moves s false;
    })
found-done s id (Some l) is =
    subst (λ (n : CoreState). CarriesOut s n (Call.keep_alive id) (todo.KeepAlive id (Some l.ttl))) (sym (kept-alive s id (Some l) is))
    (record {
      makes = λ w h. leases-make s (renewed_leases s.store id) (Call.keep_alive id) (Reply.keep_alive id l.ttl) w h
          (keep_alive_made s.store w h id l is);
      allowed = tt;
      beside = λ w h. sym (ap is_some (sym (ap (λ ls. lease_at ls id) h.leases) ∙ is));
      moves = leases-moved s (renewed_leases s.store id);
    })

pub keep_alive_done : (s new : CoreState) (id : ℤ) (ttl : Option ℕ) → ttl ≡ option_map (λ (l : Lease). l.ttl) (lease_at s.store.leases id)
    → new ≡ after_keep_alive s id → CarriesOut s new (Call.keep_alive id) (todo.KeepAlive id ttl)
keep_alive_done s new id ttl found e = subst (λ (n : CoreState). CarriesOut s n (Call.keep_alive id) (todo.KeepAlive id ttl)) (sym e)
    (subst (λ (o : Option ℕ). CarriesOut s (after_keep_alive s id) (Call.keep_alive id) (todo.KeepAlive id o)) (sym found)
    (found-done s id (lease_at s.store.leases id) refl))

-- ---- TimeToLive and Leases

pub time_to_live_done : (s : CoreState) (id : ℤ) (asked : Bool) → CarriesOut s s (Call.time_to_live id asked) (todo.TimeToLive id asked)
time_to_live_done s id asked = record {
  makes = λ w h. record { after = w; made = time_to_live_told s.store w h id asked; stands = h };
  allowed = tt;
  beside = λ w h. refl;
  moves = read_moves s false;
}

pub leases_done : (s : CoreState) → CarriesOut s s Call.leases todo.Leases
leases_done s = record {
  makes = λ w h. record { after = w; made = leases_told s.store w h; stands = h };
  allowed = tt;
  beside = λ w h. refl;
  moves = read_moves s false;
}

-- ---- a lease that is not granted

pub none-granted : (ls : List Lease) (id : ℤ) → is_granted ls id ≡ false → None ≡ option_map (λ (l : Lease). l.ttl) (lease_at ls id)
none-granted ls id e = by (lease_at ls id) (sym (granted-found ls id) ∙ e)
  where
    by : (o : Option Lease) → is_some o ≡ false → None ≡ ttl-of o
    by None e = refl
    by (Some l) e = let bad : true ≡ false = e in cc

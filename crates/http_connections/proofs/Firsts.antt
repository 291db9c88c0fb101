-- A request that was done but for the trimming that its answer waits for: what it asks for.
use Rattle.std.proofs.Common.{◌≡◌, ◌⊎◌, inl, inr, ℕ, List, Bool, false, None, Ok, refl, sym, ◌∙◌, subst}
use Rattle.kv_model.specs.declared.ids.Ids.{Ids}
use Rattle.kv_model.specs.declared.call.Command.{Command}
use Rattle.kv_model.specs.Commands.{call_of}
use Rattle.kv_model.specs.Requests.{request_of}
use Rattle.gateway_read.specs.declared.bad.Bad.{Bad}
use Rattle.gateway_read.specs.Reading.{Fails}
use Rattle.http_head.specs.Requests.{Asked}
use Rattle.http_loop.specs.Connections.{path_asked}
use Rattle.json_gateway.specs.Endings.{Refuses, fault_of_reading, is_want}
use Rattle.json_gateway.specs.declared.outcome.Outcome.{Outcome}
use Rattle.event_book.specs.Asking.{Asking}
use Rattle.engine_lock.specs.Locked.{Caller}
use Rattle.engine_lock.specs.declared.engine.Submitted.{Submitted}
use Rattle.http_connections.specs.Engines.{AnswersFirst, Looks, Refused, SubmitsFirst, asking_by}

module _ (ids : Ids) (recorded : Bool) (At : ℕ → Type 0) (c : Caller) (a : Asked) (path : List ℕ) (asks : path ≡ path_asked a) (s : Submitted) where
  pub came : (d : Caller) (command : Command) (asking : Asking) → request_of path a.body ≡ Ok (call_of command) → asking ≡ asking_by path a.body command
      → SubmitsFirst ids At c asking s d ⊎ Looks ids recorded At c asking.command s.outcome d → AnswersFirst ids recorded At c a s d
  came d command asking is e h = inl (record {
    command = command;
    is = subst (λ (p : List ℕ). request_of p a.body ≡ Ok (call_of command)) asks is;
    does = subst (λ (x : Asking). SubmitsFirst ids At c x s d ⊎ Looks ids recorded At c x.command s.outcome d) (e ∙ (λ i. asking_by (asks i) a.body command)) h;
  })

  pub came_bad : (bad : Bad) (o : Outcome) → Fails bad (request_of path a.body) → Refuses o.settled (is_want bad) (fault_of_reading bad)
      → (o.raised ≡ None) × (o.watch ≡ None) × (o.waits ≡ false) → s.outcome ≡ o → AnswersFirst ids recorded At c a s c
  came_bad bad o fails refuses bare e = inr (subst (λ (o : Outcome). Refused (path_asked a) a.body c o c) (sym e) (record {
    bad = bad;
    fails = subst (λ (p : List ℕ). Fails bad (request_of p a.body)) asks fails;
    refuses = refuses;
    bare = bare;
    same = refl;
  }))

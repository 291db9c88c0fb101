-- How far a connection has come, by several things one after the other.
use Rattle.std.proofs.Common.{◌≡◌, ℕ, List, ◌++◌, Bool, refl, sym, ap, subst, append_assoc}
use Rattle.std.proofs.lemmas.List.{append-nil}
use Rattle.kv_model.specs.declared.ids.Ids.{Ids}
use Rattle.event_book.specs.Callers as list
use Rattle.event_book.specs.Events.{Entry}
use Rattle.engine_lock.specs.Locked.{Caller, naming}
use Rattle.http_loop.specs.Turned.{Progress}
use Rattle.http_connections.specs.Lines.{Goes, Known, Lives, Sight}
use Rattle.http_connections.proofs.Giving as giving
use Rattle.http_connections.proofs.Giving.{rests}

module _ (ids : Ids) (recorded : Bool) (At : ℕ → Type 0) (call : ℕ) where
  -- no event was made
  pub by_none : (c d : Caller) (x y : Sight) → d.holder ≡ c.holder
      → ((begun : Progress Known) (made : List Entry) → Lives ids recorded At call begun x.far.state made x.far.left x.far.pending x.far.wrote x.stage
      → Lives ids recorded At call begun y.far.state made y.far.left y.far.pending y.far.wrote y.stage)
      → Goes ids recorded At call c d x y
  by_none c d x y e f = record {
    gets = rests (naming c call) (naming d call) (ap (λ (h : list.Caller). (h, call)) e);
    goes = λ begun made h. subst (λ (m : List Entry). Lives ids recorded At call begun y.far.state m y.far.left y.far.pending y.far.wrote y.stage) (sym (append-nil made)) (f begun made h);
  }

  -- nothing was done
  pub stays : (c : Caller) (x : Sight) → Goes ids recorded At call c c x x
  stays c x = by_none c c x x refl (λ begun made h. h)

  pub same : (c : Caller) (x y : Sight) → x ≡ y → Goes ids recorded At call c c x y
  same c x y e = subst (λ (y : Sight). Goes ids recorded At call c c x y) e (stays c x)

  pub both : (c d e : Caller) (x y z : Sight) → Goes ids recorded At call c d x y → Goes ids recorded At call d e y z → Goes ids recorded At call c e x z
  both c d e x y z f g = record {
    gets = giving.both (naming c call) (naming d call) (naming e call) f.gets g.gets;
    goes = λ begun made h. subst (λ (m : List Entry). Lives ids recorded At call begun z.far.state m z.far.left z.far.pending z.far.wrote z.stage) (append_assoc made f.gets.own g.gets.own)
        (g.goes begun (made ++ f.gets.own) (f.goes begun made h));
  }

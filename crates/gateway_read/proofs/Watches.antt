-- The reading of a watch, step by step.
use Rattle.std.proofs.Common.{◌≡◌, ℕ, ℤ, List, [], ◌∷◌, ◌++◌, Bool, true, false, not, Ok, Err, refl, sym, ap, ◌∙◌}
use Rattle.std.specs.Prelude.{codes, ◌||◌}
use Rattle.std.specs.List.{list_any}
use Rattle.std.proofs.Math.Bool.{or-false}
use Rattle.serde_json.specs.Data.{Items, Members}
use Rattle.kv_model.specs.Requests as requests
use Rattle.kv_model.specs.Requests.{Read, ◌>>=◌, integer_field, truth_field, list_field, bytes_field, each, filter_request, drops_puts}
use Rattle.gateway_read.specs.declared.watching.Filters.{Filters}
use Rattle.gateway_read.specs.declared.watching.Options.{Options}
use Rattle.gateway_read.specs.Transactions.{object_under}
use Rattle.gateway_read.specs.Watches.{create_read, together, with_filter, filters_read, options_read, watch_with}
use Rattle.gateway_read.proofs.Transactions.{then_assoc}

-- ---- filters together

or_assoc : (a b c : Bool) → (a || (b || c)) ≡ (a || b || c)
or_assoc true b c = refl
or_assoc false b c = refl

any-snoc : {X : Type 0} (p : X → Bool) (xs : List X) (x : X) → list_any p (xs ++ x ∷ []) ≡ (list_any p xs || p x)
any-snoc p [] x = or-false (p x)
any-snoc p (y ∷ xs) x = ap (λ b. p y || b) (any-snoc p xs x) ∙ or_assoc (p y) (list_any p xs) (p x)

pub together-snoc : (fs : List requests.Filter) (f : requests.Filter) → together (fs ++ f ∷ []) ≡ with_filter (together fs) f
together-snoc fs f = rw (any-snoc drops_puts fs f, any-snoc (λ f. not (drops_puts f)) fs f) refl

-- ---- the watch

pub watch_request-create : (ms : Members) → requests.watch_request ms ≡ (create_read ms >>= requests.watch_create)
unfolding requests.watch_request
watch_request-create ms = sym (then_assoc (requests.some_or (requests.bad_field (codes "create_request"))
    (requests.given (codes "create_request") ms)) (object_under (codes "create_request")) requests.watch_create)

pub watch_create-options : (ms : Members) → requests.watch_create ms
    ≡ (bytes_field (codes "key") ms >>= λ key. bytes_field (codes "range_end") ms
    >>= λ end. options_read ms >>= λ o. Ok (watch_with key end o))
unfolding requests.watch_create options_read
watch_create-options ms = over (bytes_field (codes "key") ms) (bytes_field (codes "range_end") ms)
    (integer_field (codes "start_revision") ms) (list_field (codes "filters") ms)
    (truth_field (codes "prev_kv") ms) (integer_field (codes "watch_id") ms)
  where
    options : ℤ → Filters → Bool → ℤ → Options
    options start filters prev_kv id = record { start = start; filters = filters; prev_kv = prev_kv; id = id }

    behind : (key end : List ℕ) (start : ℤ) (rf : Read (List requests.Filter)) (rp : Read Bool) (ri : Read ℤ)
        → (rf >>= λ fs. rp >>= λ p. ri >>= λ i. Ok (watch_with key end (options start (together fs) p i)))
        ≡ (((rf >>= λ fs. Ok (together fs)) >>= λ f. rp >>= λ p. ri >>= λ i. Ok (options start f p i))
        >>= λ o. Ok (watch_with key end o))
    behind key end start (Err x) p i = refl
    behind key end start (Ok fs) (Err x) i = refl
    behind key end start (Ok fs) (Ok p) (Err x) = refl
    behind key end start (Ok fs) (Ok p) (Ok i) = refl

    over : (rk re : Read (List ℕ)) (rs : Read ℤ) (rl : Read Items) (rp : Read Bool) (ri : Read ℤ)
        → (rk >>= λ k. re >>= λ e. rs >>= λ s. rl >>= λ l. each filter_request l >>= λ fs. rp >>= λ p. ri >>= λ i.
        Ok (watch_with k e (options s (together fs) p i)))
        ≡ (rk >>= λ k. re >>= λ e. (rs >>= λ s. rl >>= λ l. filters_read l >>= λ f. rp >>= λ p. ri >>= λ i. Ok (options s f p i))
        >>= λ o. Ok (watch_with k e o))
    over (Err x) e s l p i = refl
    over (Ok k) (Err x) s l p i = refl
    over (Ok k) (Ok e) (Err x) l p i = refl
    over (Ok k) (Ok e) (Ok s) (Err x) p i = refl
    over (Ok k) (Ok e) (Ok s) (Ok l) p i = behind k e s (each filter_request l) p i

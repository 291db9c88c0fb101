-- The reading of a transaction, step by step.
use Rattle.std.proofs.Common.{◌≡◌, ℕ, suc, List, ◌++◌, Option, None, Some, Ok, Err, refl, sym, ap, ◌∙◌, rules}
use Rattle.std.specs.Prelude.{codes}
use Rattle.serde_json.specs.Data.{Data, Members}
use Rattle.kv_model.specs.declared.call.RangeQuery.{RangeQuery}
use Rattle.kv_model.specs.declared.call.PutRequest.{PutRequest}
use Rattle.kv_model.specs.declared.call.DeleteRequest.{DeleteRequest}
use Rattle.kv_model.specs.declared.call.Operation.{the_lemmas}
use Rattle.kv_model.specs.declared.call.Operation.TheVariants as operation
use Rattle.kv_model.specs.declared.call.Txn.{Txn}
use Rattle.kv_model.specs.Calls.{Ops}
use Rattle.kv_model.specs.Commands.{op_view, txn_view}
use Rattle.kv_model.specs.Requests as requests
use Rattle.kv_model.specs.Requests.{Read, ◌>>=◌, each, given, one_kind, branch}
use Rattle.gateway_read.specs.Transactions.{Message, object_under, only_of, kind_read, message_read, compares_read}

-- ---- what the operations of the program are as rows

pub op_view-Range : (q : RangeQuery) → op_view (operation.Range q) ≡ Ops.range q Ops.no_ops
op_view-Range q = search (rules, the_lemmas)

pub op_view-Put : (p : PutRequest) → op_view (operation.Put p) ≡ Ops.put p Ops.no_ops
op_view-Put p = search (rules, the_lemmas)

pub op_view-Delete : (d : DeleteRequest) → op_view (operation.Delete d) ≡ Ops.delete d Ops.no_ops
op_view-Delete d = search (rules, the_lemmas)

pub op_view-Inner : (t : Txn) → op_view (operation.Inner t) ≡ txn_view t
op_view-Inner t = search (rules, the_lemmas)

-- ---- one step after another

pub then_assoc : {A B C : Type 0} (r : Read A) (f : A → Read B) (g : B → Read C) → ((r >>= f) >>= g) ≡ (r >>= λ x. f x >>= g)
then_assoc (Ok x) f g = refl
then_assoc (Err e) f g = refl

-- what is read of the rest of a list, after what was read of its front
abbrev pub with_front : {X : Type 0} → List X → Read (List X) → Read (List X)
with_front front r = r >>= λ xs. Ok (front ++ xs)

-- ---- an operation

by_message : (txn : Members → Read Ops) (name field : List ℕ) (d : Data) (make : Members → Message)
    → (requests.message field (λ ms. message_read txn (make ms)) d) ≡ ((object_under field d >>= λ ms. Ok (make ms)) >>= message_read txn)
by_message txn name field d make = sym (then_assoc (object_under field d) (λ ms. Ok (make ms)) (message_read txn))

one_kind-only_of : (txn : Members → Read Ops) (name : List ℕ) (a b c d : Option Data)
    → one_kind name txn a b c d ≡ (only_of name a b c d >>= message_read txn)
one_kind-only_of txn name None None None None = refl
one_kind-only_of txn name (Some a) None None None = then_assoc (object_under (codes "request_range") a) requests.range_query
    (λ q. Ok (Ops.range q Ops.no_ops)) ∙ by_message txn name (codes "request_range") a Message.range
one_kind-only_of txn name None (Some b) None None = then_assoc (object_under (codes "request_put") b) requests.put_request
    (λ p. Ok (Ops.put p Ops.no_ops)) ∙ by_message txn name (codes "request_put") b Message.put
one_kind-only_of txn name None None (Some c) None = then_assoc (object_under (codes "request_delete_range") c) requests.delete_request
    (λ r. Ok (Ops.delete r Ops.no_ops)) ∙ by_message txn name (codes "request_delete_range") c Message.delete
one_kind-only_of txn name None None None (Some d) = by_message txn name (codes "request_txn") d Message.inner
one_kind-only_of txn name (Some a) (Some b) c d = refl
one_kind-only_of txn name (Some a) None (Some c) d = refl
one_kind-only_of txn name (Some a) None None (Some d) = refl
one_kind-only_of txn name None (Some b) (Some c) d = refl
one_kind-only_of txn name None (Some b) None (Some d) = refl
one_kind-only_of txn name None None (Some c) (Some d) = refl

pub by_kind : (txn : Members → Read Ops) (name : List ℕ) (d : Data)
    → requests.operation txn name d ≡ (kind_read name d >>= message_read txn)
unfolding kind_read
by_kind txn name d = over (object_under name d)
  where
    over : (r : Read Members)
        → (r >>= λ ms. one_kind name txn (given (codes "request_range") ms) (given (codes "request_put") ms)
        (given (codes "request_delete_range") ms) (given (codes "request_txn") ms))
        ≡ ((r >>= λ ms. only_of name (given (codes "request_range") ms) (given (codes "request_put") ms)
        (given (codes "request_delete_range") ms) (given (codes "request_txn") ms)) >>= message_read txn)
    over (Ok ms) = one_kind-only_of txn name (given (codes "request_range") ms) (given (codes "request_put") ms)
        (given (codes "request_delete_range") ms) (given (codes "request_txn") ms)
    over (Err e) = refl

-- ---- a transaction

pub not_nested : (n : ℕ) (ms : Members) → n ≡ 0 → requests.txn_request n ms ≡ Err requests.not_json
unfolding requests.txn_request
not_nested n ms h = rw h refl

pub nested : (n m : ℕ) (ms : Members) → n ≡ suc m → requests.txn_request n ms
    ≡ (compares_read ms >>= λ compares. branch (requests.txn_request m) (codes "success") ms
    >>= λ success. branch (requests.txn_request m) (codes "failure") ms
    >>= λ failure. Ok (Ops.txn compares success failure Ops.no_ops))
unfolding requests.txn_request
nested n m ms h = ap (λ n. requests.txn_request n ms) h
    ∙ sym (then_assoc (requests.list_field (codes "compare") ms) (each requests.compare_request) _)

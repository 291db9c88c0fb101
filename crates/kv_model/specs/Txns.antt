-- Transactions: what is refused, which branch runs, and what it changes (etcd: TxnRequest).
use Rattle.std.specs.Prelude.{ℕ, zero, suc, ◌+◌, ◌-◌, ℤ, pos, List, [], ◌∷◌, ◌++◌, length, map, Bool, true, false, not}
use Rattle.std.specs.Prelude.{◌&&◌, ◌||◌, nat_lt, nat_le, if◌then◌else◌, Option, None, Some, is_none, option_map}
use Rattle.std.specs.Prelude.{unwrap_or}
use Rattle.std.specs.Option.{option_or}
use Rattle.std.specs.List.{list_any, list_all}
use Rattle.std.specs.declared.cmp.Ordering.{Ordering}
use Rattle.std.specs.Ordering.{int_cmp, int_eq, is_eq, is_ne, is_lt, is_gt}
use Rattle.kv_model.specs.declared.version.Rev.{Rev}
use Rattle.kv_model.specs.declared.version.Version.{Version}
use Rattle.kv_model.specs.declared.version.Body.{Body}
use Rattle.kv_model.specs.declared.version.Body.TheVariants.{Put, Gone}
use Rattle.kv_model.specs.declared.version.KeyRange.{KeyRange}
use Rattle.kv_model.specs.declared.call.RangeQuery.{RangeQuery}
use Rattle.kv_model.specs.declared.call.PutRequest.{PutRequest}
use Rattle.kv_model.specs.declared.call.DeleteRequest.{DeleteRequest}
use Rattle.kv_model.specs.declared.call.Compare.{Compare}
use Rattle.kv_model.specs.declared.call.Relation.{Relation}
use Rattle.kv_model.specs.declared.call.Relation.TheVariants.{IsEqual, IsGreater, IsLess, IsNotEqual}
use Rattle.kv_model.specs.declared.call.Operand.{Operand}
use Rattle.kv_model.specs.declared.call.Operand.TheVariants.{OfVersion, OfCreate, OfMod, OfValue, OfLease}
use Rattle.kv_model.specs.declared.refusal.Refusal.{Refusal}
use Rattle.kv_model.specs.declared.refusal.Refusal.TheVariants.{NoKey, TooDeep, TooManyOps, ValueGiven, LeaseGiven}
use Rattle.kv_model.specs.declared.refusal.Refusal.TheVariants.{KeyMissing, LeaseMissing, DuplicateKey}
use Rattle.kv_model.specs.Lists.{is_empty}
use Rattle.kv_model.specs.Keys.{key_cmp, same_key, in_range}
use Rattle.kv_model.specs.History.{Mutation, Action, KeyValue, value_at, end_of, value_now}
use Rattle.kv_model.specs.Ranges.{live, RangeReply, range_reply, refuse_if, revision_refusal, live_now}
use Rattle.kv_model.specs.Calls.{Ops}

-- ---- compares

abbrev pub relates : Relation → Ordering → Bool
relates IsEqual o = is_eq o
relates IsGreater o = is_gt o
relates IsLess o = is_lt o
relates IsNotEqual o = is_ne o

-- how a key-value stands to the operand
abbrev pub operand_cmp : Operand → KeyValue → Ordering
operand_cmp (OfVersion n) kv = int_cmp (pos kv.version) n
operand_cmp (OfCreate n) kv = int_cmp (pos kv.create) n
operand_cmp (OfMod n) kv = int_cmp (pos kv.modified) n
operand_cmp (OfValue v) kv = key_cmp kv.value v
operand_cmp (OfLease n) kv = int_cmp kv.lease n

-- where there is no key, a value has no answer and any number is 0
abbrev pub holds_of_none : Relation → Operand → Bool
holds_of_none r (OfVersion n) = relates r (int_cmp (pos 0) n)
holds_of_none r (OfCreate n) = relates r (int_cmp (pos 0) n)
holds_of_none r (OfMod n) = relates r (int_cmp (pos 0) n)
holds_of_none r (OfValue v) = false
holds_of_none r (OfLease n) = relates r (int_cmp (pos 0) n)

abbrev pub holds_of : Compare → List KeyValue → Bool
holds_of c [] = holds_of_none c.relation c.operand
holds_of c (kv ∷ kvs) = list_all (λ kv. relates c.relation (operand_cmp c.operand kv)) (kv ∷ kvs)

-- the compare holds of the state at the end of the revision
abbrev pub holds : List Version → ℕ → Compare → Bool
holds vs now c = holds_of c (live vs (end_of now) c.range)

-- ---- what is refused whatever the state: a walk in the order of the document, a transaction before its parts

abbrev pub most_depth : ℕ
most_depth = 8

abbrev pub most_ops : ℕ
most_ops = 1024

abbrev pub put_fault : PutRequest → Option Refusal
put_fault p = option_or (refuse_if (is_empty p.key) NoKey)
    (option_or (refuse_if (p.ignore_value && not (is_empty p.value)) ValueGiven)
    (refuse_if (p.ignore_lease && not (int_eq p.lease (pos 0))) LeaseGiven))

abbrev pub compares_fault : List Compare → Option Refusal
compares_fault cs = refuse_if (list_any (λ (c : Compare). is_empty c.range.key) cs) NoKey

-- how many operations stand in the row itself
abbrev pub row_length : Ops → ℕ
row_length Ops.no_ops = 0
row_length (Ops.range q rest) = suc (row_length rest)
row_length (Ops.put p rest) = suc (row_length rest)
row_length (Ops.delete d rest) = suc (row_length rest)
row_length (Ops.txn cs s f rest) = suc (row_length rest)

abbrev pub size_fault : ℕ → ℕ → ℕ → Option Refusal
size_fault cs s f = refuse_if (nat_lt most_ops cs || nat_lt most_ops s || nat_lt most_ops f) TooManyOps

-- the first fault of a row whose transactions lie under so many others
unfoldable pub walk_fault : ℕ → Ops → Option Refusal
walk_fault depth Ops.no_ops = None
walk_fault depth (Ops.range q rest) = option_or (refuse_if (is_empty q.range.key) NoKey) (walk_fault depth rest)
walk_fault depth (Ops.put p rest) = option_or (put_fault p) (walk_fault depth rest)
walk_fault depth (Ops.delete d rest) = option_or (refuse_if (is_empty d.range.key) NoKey) (walk_fault depth rest)
walk_fault depth (Ops.txn cs s f rest) = option_or (refuse_if (nat_le most_depth depth) TooDeep)
    (option_or (size_fault (length cs) (row_length s) (row_length f))
    (option_or (compares_fault cs)
    (option_or (walk_fault (suc depth) s)
    (option_or (walk_fault (suc depth) f) (walk_fault depth rest)))))

-- ---- operations that may not run together

-- the keys that an operation changes
pub data Touch : Type 0 where
  one : List ℕ → Touch
  each : KeyRange → Touch

-- a key is put twice, or put and deleted
abbrev pub collides : Touch → Touch → Bool
collides (Touch.one k) (Touch.one l) = same_key k l
collides (Touch.one k) (Touch.each r) = in_range r k
collides (Touch.each r) (Touch.one k) = in_range r k
collides (Touch.each r) (Touch.each s) = false

-- everything that any operation of the rows may change
abbrev pub touches : Ops → List Touch
touches Ops.no_ops = []
touches (Ops.range q rest) = touches rest
touches (Ops.put p rest) = Touch.one p.key ∷ touches rest
touches (Ops.delete d rest) = Touch.each d.range ∷ touches rest
touches (Ops.txn cs s f rest) = touches s ++ touches f ++ touches rest

abbrev pub any_collide : List Touch → List Touch → Bool
any_collide ts us = list_any (λ t. list_any (collides t) us) ts

-- Two operations run together unless they lie in opposite branches of one transaction: so each is held against
-- what follows it in its row, and a transaction's branches not against each other.
unfoldable pub clashes : Ops → Bool
clashes Ops.no_ops = false
clashes (Ops.range q rest) = clashes rest
clashes (Ops.put p rest) = list_any (collides (Touch.one p.key)) (touches rest) || clashes rest
clashes (Ops.delete d rest) = list_any (collides (Touch.each d.range)) (touches rest) || clashes rest
clashes (Ops.txn cs s f rest) = any_collide (touches s ++ touches f) (touches rest) || clashes s || clashes f
    || clashes rest

unfoldable pub static_fault : Ops → Option Refusal
static_fault ops = option_or (walk_fault 0 ops) (refuse_if (clashes ops) DuplicateKey)

-- ---- the operations that run

pub data Path : Type 0 where
  end : Path
  range : RangeQuery → Path → Path
  put : PutRequest → Path → Path
  delete : DeleteRequest → Path → Path
  txn : Bool → Path → Path → Path

-- every compare, nested ones too, is decided on the state before
unfoldable pub path_of : List Version → ℕ → Ops → Path
path_of vs now Ops.no_ops = Path.end
path_of vs now (Ops.range q rest) = Path.range q (path_of vs now rest)
path_of vs now (Ops.put p rest) = Path.put p (path_of vs now rest)
path_of vs now (Ops.delete d rest) = Path.delete d (path_of vs now rest)
path_of vs now (Ops.txn cs s f rest) = if list_all (holds vs now) cs
    then Path.txn true (path_of vs now s) (path_of vs now rest)
    else Path.txn false (path_of vs now f) (path_of vs now rest)

-- ---- what they change

-- what a change at a revision makes of a key that holds this
abbrev pub next_body : ℕ → Action → Option KeyValue → Body
next_body main Action.delete held = Gone
next_body main (Action.put value lease) None = Put main 1 lease value
next_body main (Action.put value lease) (Some kv) = Put kv.create (kv.version + 1) lease value

-- the version that a change makes after others
abbrev pub next_version : List Version → Mutation → Version
next_version vs m = record { rev = m.rev; key = m.key; body = next_body m.rev.main m.action (value_now vs m.key) }

-- the versions with one change more
abbrev pub extend : List Version → Mutation → List Version
extend vs m = vs ++ next_version vs m ∷ []

abbrev pub extend_all : List Version → List Mutation → List Version
extend_all vs [] = vs
extend_all vs (m ∷ ms) = extend_all (extend vs m) ms

-- the versions that changes in a row add to others
abbrev pub added_by : List Version → List Mutation → List Version
added_by vs [] = []
added_by vs (m ∷ ms) = next_version vs m ∷ added_by (extend vs m) ms

-- the value and the lease that a put leaves, of a key that held this before
abbrev pub put_action : PutRequest → Option KeyValue → Action
put_action p held = Action.put (if p.ignore_value then unwrap_or (option_map (λ kv. kv.value) held) [] else p.value)
    (if p.ignore_lease then unwrap_or (option_map (λ kv. kv.lease) held) (pos 0) else p.lease)

abbrev pub put_change : List Version → ℕ → ℕ → PutRequest → Mutation
put_change vs main sub p = record {
  rev = record { main = main; sub = sub };
  key = p.key;
  action = put_action p (value_now vs p.key);
}

-- one delete for each of the keys, numbered on
abbrev pub deletes_of : ℕ → ℕ → List (List ℕ) → List Mutation
deletes_of main sub [] = []
deletes_of main sub (k ∷ ks) = (record { rev = record { main = main; sub = sub }; key = k; action = Action.delete })
    ∷ deletes_of main (suc sub) ks

abbrev pub delete_changes : List Version → ℕ → ℕ → DeleteRequest → List Mutation
delete_changes vs main sub d = deletes_of main sub (map (λ kv. kv.key) (live_now vs d.range))

-- the changes of a path at a main revision, numbered from sub on; each operation is made on what those before it left
unfoldable pub effect : List Version → ℕ → ℕ → Path → List Mutation
effect vs main sub Path.end = []
effect vs main sub (Path.range q rest) = effect vs main sub rest
effect vs main sub (Path.put p rest) =
    let m = put_change vs main sub p in
    m ∷ effect (extend vs m) main (suc sub) rest
effect vs main sub (Path.delete d rest) =
    let ms = delete_changes vs main sub d in
    ms ++ effect (extend_all vs ms) main (sub + length ms) rest
effect vs main sub (Path.txn b inner rest) =
    let ms = effect vs main sub inner in
    ms ++ effect (extend_all vs ms) main (sub + length ms) rest

-- ---- what is refused in the running

-- the lease that a put names has to be granted
abbrev pub put_lease_refusal : (ℤ → Bool) → PutRequest → Option Refusal
put_lease_refusal granted p = refuse_if (not (int_eq p.lease (pos 0)) && not (granted p.lease)) LeaseMissing

abbrev pub put_refusal : (ℤ → Bool) → List Version → PutRequest → Option Refusal
put_refusal granted vs p = option_or (refuse_if ((p.ignore_value || p.ignore_lease)
    && is_none (value_now vs p.key)) KeyMissing) (put_lease_refusal granted p)

-- the first refusal of the operations that run, in order; a Range's own revision is held against the state before
unfoldable pub run_refusal : (ℤ → Bool) → ℕ → ℕ → List Version → ℕ → Path → Option Refusal
run_refusal granted c now vs sub Path.end = None
run_refusal granted c now vs sub (Path.range q rest) = option_or (revision_refusal c now q.revision)
    (run_refusal granted c now vs sub rest)
run_refusal granted c now vs sub (Path.put p rest) = option_or (put_refusal granted vs p) (run_refusal granted c now
    (extend vs (put_change vs (now + 1) sub p)) (suc sub) rest)
run_refusal granted c now vs sub (Path.delete d rest) =
    let ms = delete_changes vs (now + 1) sub d in
    run_refusal granted c now (extend_all vs ms) (sub + length ms) rest
run_refusal granted c now vs sub (Path.txn b inner rest) =
    let ms = effect vs (now + 1) sub inner in
    option_or (run_refusal granted c now vs sub inner) (run_refusal granted c now (extend_all vs ms) (sub + length ms)
    rest)

-- ---- what they answer, read in the versions after the whole at the place that each stands at

pub data Replies : Type 0 where
  no_replies : Replies
  range : RangeReply → Replies → Replies
  put : Option KeyValue → Replies → Replies
  delete : ℕ → List KeyValue → Replies → Replies
  txn : Bool → Replies → Replies → Replies

-- the place before the change with this number
abbrev pub place_before : ℕ → ℕ → Rev
place_before main zero = end_of (main - 1)
place_before main (suc sub) = record { main = main; sub = sub }

-- the key-values before, where they are asked for
abbrev pub if_asked : {X : Type 0} → Bool → List X → List X
if_asked asked xs = if asked then xs else []

abbrev pub previous_value : Bool → Option KeyValue → Option KeyValue
previous_value asked held = if asked then held else None

-- how many changes a path makes
unfoldable pub changes_of : List Version → ℕ → ℕ → Path → ℕ
changes_of vs main sub Path.end = 0
changes_of vs main sub (Path.range q rest) = changes_of vs main sub rest
changes_of vs main sub (Path.put p rest) = suc (changes_of vs main (suc sub) rest)
changes_of vs main sub (Path.delete d rest) =
    let n = length (live vs (place_before main sub) d.range) in
    n + changes_of vs main (sub + n) rest
changes_of vs main sub (Path.txn b inner rest) =
    let n = changes_of vs main sub inner in
    n + changes_of vs main (sub + n) rest

unfoldable pub replies_of : List Version → ℕ → ℕ → Path → Replies
replies_of vs now sub Path.end = Replies.no_replies
replies_of vs now sub (Path.range q rest) = Replies.range (range_reply vs now (place_before (now + 1) sub) q)
    (replies_of vs now sub rest)
replies_of vs now sub (Path.put p rest) = Replies.put (previous_value p.prev_kv
    (value_at vs (place_before (now + 1) sub) p.key)) (replies_of vs now (suc sub) rest)
replies_of vs now sub (Path.delete d rest) =
    let kvs = live vs (place_before (now + 1) sub) d.range in
    Replies.delete (length kvs) (if_asked d.prev_kv kvs) (replies_of vs now (sub + length kvs) rest)
replies_of vs now sub (Path.txn b inner rest) =
    Replies.txn b (replies_of vs now sub inner) (replies_of vs now (sub + changes_of vs (now + 1) sub inner) rest)

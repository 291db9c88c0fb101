-- The answers to the operations that ran, step by step.
use Rattle.std.proofs.Common.{◌≡◌, ℕ, suc, ◌+◌, ◌<◌, ◌≤◌, List, [], ◌∷◌, ◌++◌, length, map, drop, refl, sym, ◌∙◌, ap, subst, arith}
use Rattle.std.proofs.Common.{rules, add-one, Bool, Option, option_map, Bor, Vec, Global}
use Rattle.std.proofs.lemmas.List.{drop_all}
use Rattle.kv_model.specs.declared.version.Version.{Version}
use Rattle.kv_model.specs.declared.call.RangeQuery.{RangeQuery}
use Rattle.kv_model.specs.declared.call.PutRequest.{PutRequest}
use Rattle.kv_model.specs.declared.call.DeleteRequest.{DeleteRequest}
use Rattle.kv_model.specs.History.{value_at}
use Rattle.kv_model.specs.Ranges as ranges
use Rattle.kv_model.specs.Txns.{Path, Replies, place_before, changes_of, replies_of, previous_value, if_asked}
use Rattle.store_laws.specs.Plans.{ReadsKept}
use Rattle.range_view.specs.declared.reply.KvRef.{KvRef}
use Rattle.range_view.specs.declared.reply.RangeReply.{RangeReply}
use Rattle.range_view.specs.declared.reply.OpReply.{OpReply, the_lemmas as the_reply_lemmas}
use Rattle.range_view.specs.declared.reply.OpReply.TheVariants as reply
use Rattle.range_view.specs.Stored.{Stored}
use Rattle.range_view.specs.Replies.{in_row, kv_view, reply_view, op_reply_view, replies_view}
use Rattle.txn_core.specs.declared.step.Step.{Step, fold-roll-Step, out-Step, roll-Step, roll-out-Step}
use Rattle.txn_core.specs.declared.step.Step.TheVariants as variant
use Rattle.txn_core.specs.declared.step.Step.TheOpen.{Step-F}
use Rattle.txn_core.specs.Steps.{one_step, step_view, steps_view}
use Rattle.txn_core.proofs.Elements.{At, from-here}
use Rattle.txn_core.proofs.Stepping.{step_view-Range, step_view-Put, step_view-Delete, step_view-Inner}

-- ---- one step before others

-- what holds of each operation as it is put before others holds of each step
by-steps : (P : (Path → Path) → Type 0) → ((q : RangeQuery) → P (Path.range q)) → ((p : PutRequest) → P (Path.put p))
    → ((d : DeleteRequest) → P (Path.delete d))
    → ((b : Bool) (inner : Path) → P (Path.txn b inner)) → (s : Step) → P (step_view s)
by-steps P range put delete txn s = subst (λ (t : Step). P (step_view t)) (roll-out-Step s) (rolled (out-Step s))
  where
    rolled : (x : Step-F Step) → P (step_view (roll-Step x))
    rolled (Step-F.Range q) = subst P (sym (fold-roll-Step (Path → Path) one_step (Step-F.Range q))) (range q.now)
    rolled (Step-F.Put p) = subst P (sym (fold-roll-Step (Path → Path) one_step (Step-F.Put p))) (put p.now)
    rolled (Step-F.Delete d) = subst P (sym (fold-roll-Step (Path → Path) one_step (Step-F.Delete d))) (delete d.now)
    rolled (Step-F.Inner b ss) = subst P (sym (fold-roll-Step (Path → Path) one_step (Step-F.Inner b ss))) (txn b (steps_view ss.items))

reads-split : (c n : ℕ) (s : Step) (rest : Path) → ReadsKept c n (step_view s rest)
    → ReadsKept c n (step_view s Path.end) × ReadsKept c n rest
reads-split c n s rest = by-steps (λ f. ReadsKept c n (f rest) → ReadsKept c n (f Path.end) × ReadsKept c n rest)
    (λ q h. ((h.0, tt), h.1)) (λ p h. (tt, h)) (λ d h. (tt, h)) (λ b inner h. ((h.0, tt), h.1)) s

-- the changes behind a step are numbered on from its own
AddsUp : List Version → ℕ → ℕ → Path → (Path → Path) → Type 0
AddsUp vs main sub rest f = (sub + changes_of vs main sub (f Path.end)) + changes_of vs main
    (sub + changes_of vs main sub (f Path.end)) rest ≡ sub + changes_of vs main sub (f rest)

adds-range : (vs : List Version) (main sub : ℕ) (rest : Path) (q : RangeQuery) → AddsUp vs main sub rest (Path.range q)
unfolding changes_of AddsUp
adds-range vs main sub rest q = let e : sub + 0 ≡ sub = omega arith in ap (λ k. k + changes_of vs main k rest) e

adds-put : (vs : List Version) (main sub : ℕ) (rest : Path) (p : PutRequest) → AddsUp vs main sub rest (Path.put p)
unfolding changes_of AddsUp
adds-put vs main sub rest p = let e : sub + 1 ≡ suc sub = add-one sub in ap (λ k. k + changes_of vs main k rest) e ∙ omega arith

adds-delete : (vs : List Version) (main sub : ℕ) (rest : Path) (d : DeleteRequest) → AddsUp vs main sub rest (Path.delete d)
unfolding changes_of AddsUp
adds-delete vs main sub rest d =
    let n : ℕ = length (ranges.live vs (place_before main sub) d.range) in
    let e : sub + (n + 0) ≡ sub + n = omega arith in
    ap (λ k. k + changes_of vs main k rest) e ∙ omega arith

adds-txn : (vs : List Version) (main sub : ℕ) (rest : Path) (b : Bool) (inner : Path) → AddsUp vs main sub rest (Path.txn b inner)
unfolding changes_of AddsUp
adds-txn vs main sub rest b inner =
    let n : ℕ = changes_of vs main sub inner in
    let e : sub + (n + 0) ≡ sub + n = omega arith in
    ap (λ k. k + changes_of vs main k rest) e ∙ omega arith

changes-split : (vs : List Version) (main sub : ℕ) (s : Step) (rest : Path) → AddsUp vs main sub rest (step_view s)
changes-split vs main sub s rest = by-steps (AddsUp vs main sub rest) (adds-range vs main sub rest) (adds-put vs main sub rest)
    (adds-delete vs main sub rest) (adds-txn vs main sub rest) s

-- ---- one step of a row

pub row-at : (ss : List Step) (a : At ss) → steps_view (drop a.index ss) ≡ step_view a.value (steps_view (drop (a.index + 1) ss))
row-at ss a = ap (λ (ts : List Step). steps_view ts) (from-here ss a)

pub row-end : (ss : List Step) (i : ℕ) → length ss ≤ i → steps_view (drop i ss) ≡ Path.end
row-end ss i h = ap (λ (ts : List Step). steps_view ts) (drop_all i ss h)

pub row-reads : (c n : ℕ) (ss : List Step) (a : At ss) → ReadsKept c n (steps_view (drop a.index ss))
    → ReadsKept c n (step_view a.value Path.end) × ReadsKept c n (steps_view (drop (a.index + 1) ss))
row-reads c n ss a k = reads-split c n a.value (steps_view (drop (a.index + 1) ss)) (subst (ReadsKept c n) (row-at ss a) k)

pub row-changes : (vs : List Version) (main next after : ℕ) (ss : List Step) (a : At ss)
    → after ≡ next + changes_of vs main next (step_view a.value Path.end)
    → after + changes_of vs main after (steps_view (drop (a.index + 1) ss)) ≡ next + changes_of vs main next (steps_view (drop a.index ss))
unfolding AddsUp
row-changes vs main next after ss a e =
    ap (λ k. k + changes_of vs main k (steps_view (drop (a.index + 1) ss))) e
    ∙ changes-split vs main next a.value (steps_view (drop (a.index + 1) ss))
    ∙ ap (λ q. next + changes_of vs main next q) (sym (row-at ss a))

-- the changes of a step are no more than those of the row
pub row-room : (vs : List Version) (main next : ℕ) (ss : List Step) (a : At ss) (most : ℕ)
    → next + changes_of vs main next (steps_view (drop a.index ss)) < most
    → next + changes_of vs main next (step_view a.value Path.end) < most
row-room vs main next ss a most l =
    omega (arith, l, row-changes vs main next (next + changes_of vs main next (step_view a.value Path.end)) ss a refl)

pub row-pushed : (rs : List OpReply) (r : OpReply) (rest : Replies)
    → in_row (map op_reply_view (rs ++ r ∷ [])) rest ≡ in_row (map op_reply_view rs) (op_reply_view r rest)
row-pushed [] r rest = refl
row-pushed (q ∷ rs) r rest = ap (op_reply_view q) (row-pushed rs r rest)

-- ---- a step by itself

pub path-range : (s : Step) (q : Bor RangeQuery) → s ≡ variant.Range q → (rest : Path) → step_view s rest ≡ Path.range q.now rest
path-range s q is rest = ap (λ (t : Step). step_view t rest) is ∙ step_view-Range q rest

pub path-put : (s : Step) (p : Bor PutRequest) → s ≡ variant.Put p → (rest : Path) → step_view s rest ≡ Path.put p.now rest
path-put s p is rest = ap (λ (t : Step). step_view t rest) is ∙ step_view-Put p rest

pub path-delete : (s : Step) (d : Bor DeleteRequest) → s ≡ variant.Delete d → (rest : Path) → step_view s rest ≡ Path.delete d.now rest
path-delete s d is rest = ap (λ (t : Step). step_view t rest) is ∙ step_view-Delete d rest

-- the steps of a transaction within, as the code reads them
pub path-inner : (s : Step) (b : Bool) (ss : Vec Step Global) (ts : List Step) → s ≡ variant.Inner b ss → ts ≡ ss.items
    → (rest : Path) → step_view s rest ≡ Path.txn b (steps_view ts) rest
path-inner s b ss ts is e rest = ap (λ (t : Step). step_view t rest) is ∙ step_view-Inner b ss rest
    ∙ ap (λ (us : List Step). Path.txn b (steps_view us) rest) (sym e)

reply-range : (r : RangeReply) (rest : Replies) → op_reply_view (reply.Range r) rest ≡ Replies.range (reply_view r) rest
reply-range r rest = search (rules, the_reply_lemmas)

reply-put : (held : Option KvRef) (rest : Replies) → op_reply_view (reply.Put held) rest ≡ Replies.put (option_map kv_view held) rest
reply-put held rest = search (rules, the_reply_lemmas)

reply-delete : (deleted : ℕ) (previous : Vec KvRef Global) (rest : Replies)
    → op_reply_view (reply.Delete deleted previous) rest ≡ Replies.delete deleted (map kv_view previous.items) rest
reply-delete deleted previous rest = search (rules, the_reply_lemmas)

reply-inner : (b : Bool) (rs : Vec OpReply Global) (rest : Replies)
    → op_reply_view (reply.Inner b rs) rest ≡ Replies.txn b (replies_view rs.items) rest
reply-inner b rs rest = search (rules, the_reply_lemmas)

-- ---- how many changes an operation makes

pub range-changes : (vs : List Version) (main sub : ℕ) (q : RangeQuery) → sub ≡ sub + changes_of vs main sub (Path.range q Path.end)
unfolding changes_of
range-changes vs main sub q = omega arith

pub put-changes : (vs : List Version) (main sub : ℕ) (p : PutRequest) → sub + 1 ≡ sub + changes_of vs main sub (Path.put p Path.end)
unfolding changes_of
put-changes vs main sub p = refl

pub delete-changes : (vs : List Version) (main sub : ℕ) (d : DeleteRequest)
    → sub + length (ranges.live vs (place_before main sub) d.range) ≡ sub + changes_of vs main sub (Path.delete d Path.end)
unfolding changes_of
delete-changes vs main sub d = let n : ℕ = length (ranges.live vs (place_before main sub) d.range) in omega arith

pub inner-changes : (vs : List Version) (main sub : ℕ) (b : Bool) (inner : Path)
    → sub + changes_of vs main sub inner ≡ sub + changes_of vs main sub (Path.txn b inner Path.end)
unfolding changes_of
inner-changes vs main sub b inner = let n : ℕ = changes_of vs main sub inner in omega arith

-- ---- what an operation is answered, before the answers behind it

-- the answers to a path in these tables, behind so many changes of the revision after one
abbrev pub told : Stored → ℕ → ℕ → Path → Replies
told t n sub q = replies_of t.versions n sub q

pub range-told : (t : Stored) (n sub : ℕ) (q : RangeQuery) (r : RangeReply)
    → reply_view r ≡ ranges.range_reply t.versions n (place_before (n + 1) sub) q
    → (rest : Path) → op_reply_view (reply.Range r) (told t n sub rest) ≡ told t n sub (Path.range q rest)
unfolding replies_of
range-told t n sub q r e rest = reply-range r (told t n sub rest) ∙ ap (λ a. Replies.range a (told t n sub rest)) e

pub put-told : (t : Stored) (n sub : ℕ) (p : PutRequest) (held : Option KvRef)
    → option_map kv_view held ≡ previous_value p.prev_kv (value_at t.versions (place_before (n + 1) sub) p.key)
    → (rest : Path) → op_reply_view (reply.Put held) (told t n (sub + 1) rest) ≡ told t n sub (Path.put p rest)
unfolding replies_of
put-told t n sub p held e rest =
    reply-put held (told t n (sub + 1) rest) ∙ (λ i. Replies.put (e i) (told t n (add-one sub i) rest))

pub delete-told : (t : Stored) (n sub count : ℕ) (d : DeleteRequest) (previous : Vec KvRef Global)
    → count ≡ length (ranges.live t.versions (place_before (n + 1) sub) d.range)
    → map kv_view previous.items ≡ if_asked d.prev_kv (ranges.live t.versions (place_before (n + 1) sub) d.range)
    → (rest : Path) → op_reply_view (reply.Delete count previous) (told t n (sub + count) rest) ≡ told t n sub (Path.delete d rest)
unfolding replies_of
delete-told t n sub count d previous e f rest =
    reply-delete count previous (told t n (sub + count) rest) ∙ (λ i. Replies.delete (e i) (f i) (told t n (sub + e i) rest))

pub inner-told : (t : Stored) (n sub next : ℕ) (b : Bool) (inner : Path) (rs : Vec OpReply Global)
    → replies_view rs.items ≡ told t n sub inner → next ≡ sub + changes_of t.versions (n + 1) sub inner
    → (rest : Path) → op_reply_view (reply.Inner b rs) (told t n next rest) ≡ told t n sub (Path.txn b inner rest)
unfolding replies_of
inner-told t n sub next b inner rs e f rest =
    reply-inner b rs (told t n next rest) ∙ (λ i. Replies.txn b (e i) (told t n (f i) rest))

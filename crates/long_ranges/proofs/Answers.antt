-- What the parts of a Range show, and what the whole shows.
use Rattle.std.proofs.Common.{◌≡◌, ◌≤◌, ◌<◌, ℕ, zero, suc, ℤ, pos, negsuc, List, [], ◌∷◌, ◌++◌, length, map, filter, Bool, true, false, cond}
use Rattle.std.proofs.Common.{Option, None, Some, Result, Ok, Err, nat_lt, append_assoc, refl, sym, ◌∙◌, ap, subst, arith}
use Rattle.std.specs.Prelude.{IfOk, int_le}
use Rattle.std.specs.Option.{option_or}
use Rattle.std.proofs.lemmas.Bool.{le-ltb}
use Rattle.std.proofs.lemmas.Bool.Decides.{nat_tests}
use Rattle.std.proofs.lemmas.List.{append-nil}
use mathlib.Core.List.{IsPrefix}
use Rattle.kv_model.specs.declared.ids.Ids.{Ids}
use Rattle.kv_model.specs.declared.version.KeyRange.{KeyRange}
use Rattle.kv_model.specs.declared.version.Rev.{Rev}
use Rattle.kv_model.specs.declared.call.RangeQuery.{RangeQuery}
use Rattle.kv_model.specs.declared.refusal.Refusal.{Refusal}
use Rattle.kv_model.specs.declared.refusal.Refusal.TheVariants.{Compacted, Future, NoKey}
use Rattle.kv_model.specs.History.{KeyValue, Mutation, end_of, value_at}
use Rattle.kv_model.specs.Answers.{success_response}
use Rattle.kv_model.specs.Told.{Reply}
use Rattle.kv_model.specs.Keys.{same_key}
use Rattle.kv_model.specs.Lists.{is_empty}
use Rattle.kv_model.specs.Ranges as ranges
use Rattle.kv_model.specs.Ranges.{first_few, live, passes_filters, range_refusal, range_reply, read_place, refuse_if, reply_from, revision_refusal, sorted, stripped, unless_refused}
use Rattle.kv_model.specs.World.{World, revision, versions}
use Rattle.store_laws.specs.Changes.{untrimmed}
use Rattle.store_laws.specs.Sound.{IsChange, IsSound}
use Rattle.store_laws.proofs.PlaceLaws.{each-change, each-dressed, each-map, value_at-absent}
use Rattle.event_book.specs.Events.{Entry, led_to}
use Rattle.range_view.specs.declared.reply.RangeReply.{RangeReply}
use Rattle.range_view.specs.Replies.{kv_view, reply_view}
use Rattle.range_view.specs.Selecting.{AreByKey, arranged, first_of, keeps_order, limit_of, most_needed}
use Rattle.range_view.proofs.Live.{live-by_key}
use Rattle.range_view.proofs.Selecting.{shown-passed, shown_of}
use Rattle.snapshot_feed.specs.Answers.{AnswersOf}
use Rattle.long_ranges.specs.declared.begin.Begun.{Begun}
use Rattle.long_ranges.specs.declared.gathered.Gathered.{Gathered}
use Rattle.long_ranges.specs.declared.gathered.Gathered.TheVariants as gathered
use Rattle.long_ranges.specs.Laws.{below, from}
use Rattle.long_ranges.specs.Parts.{HasBegun, IsAskedFor, IsCutInto, IsOfMany, IsOfSeveral, IsShownBy, Shows, is_count, live_at, live_left, part_of, shown, text_of}
use Rattle.long_ranges.proofs.Later.{later_says_the_same}
use Rattle.long_ranges.proofs.Wholes.{parts_make_the_whole}

-- ---- what a part shows

part_count : (q : RangeQuery) (range : KeyRange) (at : ℤ) (c : Bool) (now : ℕ) (kvs : List KeyValue)
    → (reply_from (part_of q range at c) now kvs).count ≡ length kvs
unfolding reply_from
part_count q range at true now kvs = refl
part_count q range at false now kvs = refl

part_shows : (q : RangeQuery) (range : KeyRange) (at : ℤ) (now : ℕ) (kvs : List KeyValue) → AreByKey kvs
    → (reply_from (part_of q range at false) now kvs).kvs ≡ shown q kvs
unfolding reply_from
part_shows q range at now kvs h = ap (map (stripped q.keys_only)) (sym (shown-passed (part_of q range at false) kvs refl h))

-- ---- what the whole shows

no_limit : {X : Type 0} (z : ℤ) (xs : List X) → int_le z (pos 0) ≡ true → first_few z xs ≡ xs
no_limit (pos zero) xs h = refl
no_limit (pos (suc n)) xs h = let l : suc n ≤ 0 = grind (arith, nat_tests) in absurd (omega (arith, l))
no_limit (negsuc n) xs h = refl

no_most : {X : Type 0} (z : ℤ) (xs : List X) → int_le z (pos 0) ≡ true → first_of (limit_of z) xs ≡ xs
no_most (pos zero) xs h = refl
no_most (pos (suc n)) xs h = let l : suc n ≤ 0 = grind (arith, nat_tests) in absurd (omega (arith, l))
no_most (negsuc n) xs h = refl

not_less : (n : ℕ) → nat_lt n n ≡ false
not_less n = le-ltb n n (omega arith)

module _ (q : RangeQuery) (m : IsOfMany q) (kvs : List KeyValue) (by_key : AreByKey kvs) where
  passing : List KeyValue
  passing = filter (passes_filters q) kvs

  hits : List KeyValue
  hits = sorted q.order q.target (filter (passes_filters q) kvs)

  most : first_of (most_needed q) (filter (passes_filters q) kvs) ≡ filter (passes_filters q) kvs
  most = ap (λ b. first_of (cond b (Some 0) (cond (keeps_order q.order q.target) (limit_of q.limit) None)) (filter (passes_filters q) kvs)) m.shows
      ∙ ap (λ b. first_of (cond b (limit_of q.limit) None) (filter (passes_filters q) kvs)) m.in_order
      ∙ no_most q.limit (filter (passes_filters q) kvs) m.all

  in_order : sorted q.order q.target (filter (passes_filters q) kvs) ≡ filter (passes_filters q) kvs
  in_order = sym (no_limit q.limit (sorted q.order q.target (filter (passes_filters q) kvs)) m.all)
      ∙ sym (shown-passed q kvs m.shows by_key)
      ∙ ap (shown_of q) most
      ∙ no_limit q.limit (arranged q (filter (passes_filters q) kvs)) m.all
      ∙ ap (λ b. cond b (filter (passes_filters q) kvs) (sorted q.order q.target (filter (passes_filters q) kvs))) m.in_order

  all_hits : first_few q.limit (sorted q.order q.target (filter (passes_filters q) kvs)) ≡ sorted q.order q.target (filter (passes_filters q) kvs)
  all_hits = no_limit q.limit (sorted q.order q.target (filter (passes_filters q) kvs)) m.all

  abbrev replied : ℕ → ranges.RangeReply
  replied now = record { kvs = shown q kvs; count = length kvs; more = false; revision = now }

  pub whole_shows : (now : ℕ) → reply_from q now kvs ≡ replied now
  unfolding reply_from
  whole_shows now =
      ap (λ b. cond b (record { kvs = []; count = length kvs; more = false; revision = now })
      (record { kvs = map (stripped q.keys_only) (first_few q.limit hs); count = length kvs; more = nat_lt (length (first_few q.limit hs)) (length hs); revision = now })) m.shows
      ∙ ap (λ (xs : List KeyValue). the_reply (map (stripped q.keys_only) xs) (nat_lt (length xs) (length hs))) all_hits
      ∙ ap (λ b. the_reply (map (stripped q.keys_only) hs) b) (not_less (length hs))
      ∙ ap (λ xs. the_reply (map (stripped q.keys_only) xs) false) in_order
    where
      hs : List KeyValue
      hs = sorted q.order q.target (filter (passes_filters q) kvs)

      the_reply : List KeyValue → Bool → ranges.RangeReply
      the_reply xs more = record { kvs = xs; count = length kvs; more = more; revision = now }

-- ---- at which revision

pub place_asked : (z : ℤ) (now : ℕ) (b : Begun) → IsAskedFor z now b → read_place z (end_of now) ≡ end_of b.revision
place_asked (pos zero) now b e = ap end_of (sym e)
place_asked (pos (suc n)) now b e = ap end_of (sym e)
place_asked (negsuc n) now b e = ap end_of (sym e)

unrefused : (o p : Option Refusal) → option_or o p ≡ None → p ≡ None
unrefused None p e = e
unrefused (Some x) p e = cc

not_future : (b : Bool) (x : Refusal) → refuse_if b x ≡ None → b ≡ false
not_future true x e = cc
not_future false x e = refl

pub happened : (z : ℤ) (now c : ℕ) (b : Begun) (empty : Bool) → IsAskedFor z now b
    → option_or (refuse_if empty NoKey) (revision_refusal c now z) ≡ None → b.revision ≤ now
happened (pos zero) now c b empty e h = omega (arith, e)
happened (pos (suc n)) now c b empty e h =
    let past : nat_lt now (suc n) ≡ false = not_future (nat_lt now (suc n)) (Future now)
    (unrefused (refuse_if (nat_lt (suc n) c) (Compacted c)) (refuse_if (nat_lt now (suc n)) (Future now))
    (unrefused (refuse_if empty NoKey) (revision_refusal c now (pos (suc n))) h)) in
    let le : suc n ≤ now = grind (arith, nat_tests) in
    omega (arith, e, le)
happened (negsuc n) now c b empty e h = omega (arith, e)

-- ---- what is answered

told : (o : Option Refusal) (x y : ranges.RangeReply) → unless_refused o x ≡ Ok y → (o ≡ None) × (x ≡ y)
told None x y e = (refl, cc)
told (Some r) x y e = cc

pub allowed_there : (w : World) (q : RangeQuery) (r : RangeReply) → AnswersOf (untrimmed w) q (Ok r) → range_refusal w.compacted (revision w) q ≡ None
allowed_there w q r h = (told (range_refusal w.compacted (revision w) q) (range_reply (versions w) (revision w) (end_of (revision w)) q) (reply_view r) h).0

pub answered_there : (w : World) (q : RangeQuery) (r : RangeReply) → AnswersOf (untrimmed w) q (Ok r)
    → range_reply (versions w) (revision w) (end_of (revision w)) q ≡ reply_view r
answered_there w q r h = (told (range_refusal w.compacted (revision w) q) (range_reply (versions w) (revision w) (end_of (revision w)) q) (reply_view r) h).1

either_now : (n : ℕ) (x y : ranges.RangeReply) → x.revision ≡ n → y.revision ≡ n → (b : Bool) → (cond {A = ranges.RangeReply} b x y).revision ≡ n
either_now n x y e f true = e
either_now n x y e f false = f

now_shown : (q : RangeQuery) (now : ℕ) (kvs : List KeyValue) → (reply_from q now kvs).revision ≡ now
unfolding reply_from
now_shown q now kvs = either_now now _ _ refl refl q.count_only

pub shows_now : (w : World) (q : RangeQuery) (r : RangeReply) → AnswersOf (untrimmed w) q (Ok r) → r.revision ≡ revision w
unfolding range_reply
shows_now w q r h = sym (ap (λ (x : ranges.RangeReply). x.revision) (answered_there w q r h))
    ∙ now_shown q (revision w) (live (versions w) (read_place q.revision (end_of (revision w))) q.range)

-- the answer to a part is of what is live in it at that revision
part_place : (r : ℕ) (p : Rev) → 0 < r → read_place (pos r) p ≡ end_of r
part_place zero p h = absurd (omega (arith, h))
part_place (suc n) p h = refl

module _ (front known : List Entry) (goes_on : IsPrefix front known) (r : ℕ) (some : 0 < r) (happened_then : r ≤ revision (led_to front)) where
  live_same : (range : KeyRange) → live (versions (led_to known)) (end_of r) range ≡ live_at front r range
  live_same range = later_says_the_same front known goes_on r happened_then range

  part_answer : (q : RangeQuery) (range : KeyRange) (c : Bool) (reply : RangeReply) → AnswersOf (untrimmed (led_to known)) (part_of q range (pos r) c) (Ok reply)
      → reply_view reply ≡ reply_from (part_of q range (pos r) c) (revision (led_to known)) (live_at front r range)
  unfolding range_reply
  part_answer q range c reply h =
      sym (answered_there (led_to known) (part_of q range (pos r) c) reply h)
      ∙ ap (λ p. reply_from (part_of q range (pos r) c) (revision (led_to known)) (live (versions (led_to known)) p range)) (part_place r (end_of (revision (led_to known))) some)
      ∙ ap (reply_from (part_of q range (pos r) c) (revision (led_to known))) (live_same range)

  pub counted : (q : RangeQuery) (range : KeyRange) (c : Bool) (reply : RangeReply) → AnswersOf (untrimmed (led_to known)) (part_of q range (pos r) c) (Ok reply)
      → reply.count ≡ length (live_at front r range)
  counted q range c reply h = ap (λ (x : ranges.RangeReply). x.count) (part_answer q range c reply h)
      ∙ part_count q range (pos r) c (revision (led_to known)) (live_at front r range)

  pub shows_part : (g : Gathered) (q : RangeQuery) (range : KeyRange) (reply : RangeReply) → AnswersOf (untrimmed (led_to known)) (part_of q range (pos r) (is_count g)) (Ok reply)
      → Shows g (map kv_view reply.kvs.items ≡ shown q (live_at front r range))
  shows_part (gathered.Count n) q range reply h = tt
  shows_part (gathered.Text t) q range reply h = ap (λ (x : ranges.RangeReply). x.kvs) (part_answer q range false reply h)
      ∙ part_shows q range (pos r) (revision (led_to known)) (live_at front r range) (live-by_key (versions (led_to front)) (end_of r) range)

  -- ---- what is left

  no_bytes : (k : List ℕ) → (k ≡ [] → ⊥) → same_key k [] ≡ false
  no_bytes [] h = absurd (h refl)
  no_bytes (n ∷ ns) h = refl

  none_there : IsSound (led_to known) → value_at (versions (led_to known)) (end_of r) [] ≡ None
  none_there s = value_at-absent (versions (led_to known)) (end_of r) []
      (each-dressed (λ p k. same_key k [] ≡ false) (led_to known).mutations
      (each-map IsChange (λ (m : Mutation). same_key m.key [] ≡ false) (λ m c. no_bytes m.key c.has_key) (led_to known).mutations (each-change (led_to known).mutations s.history)))

  pub whole_is : IsSound (led_to known) → (range part : KeyRange) (left : Option KeyRange) → is_empty range.end ≡ false → IsCutInto range part left
      → live_at front r part ++ live_left front r left ≡ live_at front r range
  whole_is s range part None e c = append-nil (live_at front r part) ∙ ap (live_at front r) c
  whole_is s range part (Some rest) e (k, cut, lower, upper) =
      ap (λ (x : KeyRange). live_at front r x ++ live_at front r rest) lower
      ∙ ap (λ (x : KeyRange). live_at front r (below range k) ++ live_at front r x) upper
      ∙ sym (ap (λ xs. xs ++ live_at front r (from range k)) (live_same (below range k)))
      ∙ sym (ap (λ xs. live (versions (led_to known)) (end_of r) (below range k) ++ xs) (live_same (from range k)))
      ∙ parts_make_the_whole (versions (led_to known)) (end_of r) range k (none_there s) e cut
      ∙ live_same range

  pub shown_by : (g : Gathered) (q : RangeQuery) (range : KeyRange) → IsShownBy (led_to known) (part_of q range (pos r) (is_count g)) g q (live_at front r range)
  shown_by g q range reply h = (counted q range (is_count g) reply h, shows_part g q range reply h)

pub several_left : (range part : KeyRange) (left : Option KeyRange) → is_empty range.end ≡ false → IsCutInto range part left → IsOfSeveral left
several_left range part None e c = tt
several_left range part (Some rest) e (k, cut, lower, upper) = ap (λ (x : KeyRange). is_empty x.end) upper ∙ e

-- ---- what was gathered

pub gathered_all : (front : List Entry) (r : ℕ) (range : KeyRange) (left : Option KeyRange) (seen : List KeyValue) → left ≡ None
    → seen ++ live_left front r left ≡ live_at front r range → seen ≡ live_at front r range
gathered_all front r range left seen e h = sym (append-nil seen) ∙ sym (ap (λ l. seen ++ live_left front r l) e) ∙ h

pub gathered_more : (front : List Entry) (r : ℕ) (range rest : KeyRange) (left next : Option KeyRange) (seen part : List KeyValue) → left ≡ Some rest
    → part ++ live_left front r next ≡ live_at front r rest → seen ++ live_left front r left ≡ live_at front r range
    → (seen ++ part) ++ live_left front r next ≡ live_at front r range
gathered_more front r range rest left next seen part e w h =
    append_assoc seen part (live_left front r next) ∙ ap (λ xs. seen ++ xs) w ∙ sym (ap (λ l. seen ++ live_left front r l) e) ∙ h

pub several_rest : (left : Option KeyRange) (rest : KeyRange) → left ≡ Some rest → IsOfSeveral left → is_empty rest.end ≡ false
several_rest left rest e h = subst IsOfSeveral e h

pub in_time : (front : List Entry) (q : RangeQuery) (b : Begun) → HasBegun front q b → b.revision ≤ revision (led_to front)
in_time front q b h = omega (arith, h.happened, h.now)

-- ---- the whole text

whole_reply : (w : World) (q : RangeQuery) (b : Begun) → IsOfMany q → IsAskedFor q.revision b.now b
    → range_reply (versions w) b.now (end_of b.now) q
    ≡ record { kvs = shown q (live (versions w) (end_of b.revision) q.range); count = length (live (versions w) (end_of b.revision) q.range); more = false; revision = b.now }
unfolding range_reply
whole_reply w q b m asked =
    ap (λ p. reply_from q b.now (live (versions w) p q.range)) (place_asked q.revision b.now b asked)
    ∙ whole_shows q m (live (versions w) (end_of b.revision) q.range) (live-by_key (versions w) (end_of b.revision) q.range) b.now

pub whole_text : (ids : Ids) (front : List Entry) (q : RangeQuery) (b : Begun) → HasBegun front q b
    → text_of ids b.now (length (live_at front b.revision q.range)) q (live_at front b.revision q.range)
    ≡ (success_response ids (record {
      reply = Reply.range (range_reply (versions (led_to front)) (revision (led_to front)) (end_of (revision (led_to front))) q);
      revision = revision (led_to front);
    })).body
whole_text ids front q b h =
    sym (ap (λ (x : ranges.RangeReply). (success_response ids (record { reply = Reply.range x; revision = b.now })).body) (whole_reply (led_to front) q b h.many h.asked))
    ∙ ap (λ n. (success_response ids (record { reply = Reply.range (range_reply (versions (led_to front)) n (end_of n) q); revision = n })).body) h.now

pub if_ok_map : {T E : Type 0} (P Q : T → Type 0) → ((x : T) → P x → Q x) → (r : Result T E) → IfOk r P → IfOk r Q
if_ok_map P Q f (Ok x) h = f x h
if_ok_map P Q f (Err e) h = h

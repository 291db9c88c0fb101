-- Where nothing clashes, the changes of a path and its first refusal are told from the state before it.
use Rattle.std.proofs.Common.{◌≡◌, ℕ, suc, ◌+◌, ℤ, List, [], ◌∷◌, ◌++◌, length, Bool, false, ◌&&◌, ◌||◌, refl, sym, ◌∙◌, ap, subst}
use Rattle.std.proofs.Common.{append_assoc, add-one, length-append}
use Rattle.std.specs.Prelude.{is_none, ⊤}
use Rattle.std.specs.Option.{option_or}
use Rattle.std.specs.List.{AllByRecursion}
use Rattle.std.proofs.lemmas.List.{append-nil}
use Rattle.kv_model.specs.declared.version.Version.{Version}
use Rattle.kv_model.specs.declared.version.KeyRange.{KeyRange}
use Rattle.kv_model.specs.declared.call.PutRequest.{PutRequest}
use Rattle.kv_model.specs.declared.call.DeleteRequest.{DeleteRequest}
use Rattle.kv_model.specs.declared.refusal.Refusal.TheVariants.{KeyMissing}
use Rattle.kv_model.specs.Keys.{same_key}
use Rattle.kv_model.specs.History.{Mutation, puts_key, value_now}
use Rattle.kv_model.specs.Ranges.{keys_of, live_now, revision_refusal, refuse_if}
use Rattle.kv_model.specs.Txns.{Path, Touch, collides, extend, extend_all, put_change, put_action, put_refusal, put_lease_refusal}
use Rattle.kv_model.specs.Txns.{deletes_of, effect, run_refusal}
use Rattle.store_laws.specs.Plans.{path_touches, still_live, planned, planned_refusal}
use Rattle.store_laws.proofs.HistoryLaws.{AllByRecursion-split}
use Rattle.store_laws.proofs.PlaceLaws.{each-map, each-append}
use Rattle.store_laws.proofs.GoodLaws.{each-both}
use Rattle.store_laws.proofs.TouchLaws.{touch_of, IsClear, AreClear, clear-one, clear-each, value-after, value-untouched, live-after}
use Rattle.store_laws.proofs.TouchLaws.{still_live-in, deletes-clear}

-- ---- nothing clashes

-- no operation of the path changes what a later one changes, but that deletes may meet
abbrev pub NoClash : Path → Type 0
NoClash Path.end = ⊤
NoClash (Path.range q rest) = NoClash rest
NoClash (Path.put p rest) = IsClear (Touch.one p.key) (path_touches rest) × NoClash rest
NoClash (Path.delete d rest) = IsClear (Touch.each d.range) (path_touches rest) × NoClash rest
NoClash (Path.txn b inner rest) = AllByRecursion (λ t. IsClear t (path_touches rest)) (path_touches inner) × NoClash inner × NoClash rest

clear-tail : (us : List Mutation) (t : Touch) (ts : List Touch) → AreClear us (t ∷ ts) → AreClear us ts
clear-tail us t ts h = each-map (λ u. IsClear (touch_of u) (t ∷ ts)) (λ u. IsClear (touch_of u) ts) (λ u c. c.1) us h

pub clear-head : (us : List Mutation) (t : Touch) (ts : List Touch) → AreClear us (t ∷ ts) → AllByRecursion (λ u. collides (touch_of u) t
    ≡ false) us
clear-head us t ts h = each-map (λ u. IsClear (touch_of u) (t ∷ ts)) (λ u. collides (touch_of u) t ≡ false) (λ u c. c.0) us h

pub clear-front : (us : List Mutation) (ts ss : List Touch) → AreClear us (ts ++ ss) → AreClear us ts
clear-front us ts ss h = each-map (λ u. IsClear (touch_of u) (ts ++ ss)) (λ u. IsClear (touch_of u) ts)
    (λ u c. (AllByRecursion-split (λ t. collides (touch_of u) t ≡ false) ts ss c).0) us h

-- the changes of a path are clear of all that the path is clear of
pub planned-clear : (vs : List Version) (main : ℕ) (us : List Mutation) (q : Path) (ts : List Touch) → AreClear us (path_touches q ++ ts)
    → NoClash q
    → AllByRecursion (λ t. IsClear t ts) (path_touches q) → AreClear (planned vs main us q) ts
unfolding planned
planned-clear vs main us Path.end ts j n a = j
planned-clear vs main us (Path.range r rest) ts j n a = planned-clear vs main us rest ts j n a
planned-clear vs main us (Path.put p rest) ts j n a =
    let m : Mutation = put_change vs main (length us) p in
    let all : List Touch = path_touches rest ++ ts in
    planned-clear vs main (us ++ m ∷ []) rest ts
    (each-append (λ u. IsClear (touch_of u) all) us (m ∷ []) (clear-tail us (Touch.one p.key) all j)
    (each-append (λ t. collides (Touch.one p.key) t ≡ false) (path_touches rest) ts n.0 a.0, tt)) n.1 a.1
planned-clear vs main us (Path.delete d rest) ts j n a =
    let ks : List (List ℕ) = still_live vs us d.range in
    let all : List Touch = path_touches rest ++ ts in
    planned-clear vs main (us ++ deletes_of main (length us) ks) rest ts
    (each-append (λ u. IsClear (touch_of u) all) us (deletes_of main (length us) ks) (clear-tail us (Touch.each d.range) all j)
    (deletes-clear main (length us) d.range ks all (still_live-in vs us d.range) (each-append (λ t. collides (Touch.each d.range) t
    ≡ false) (path_touches rest) ts n.0 a.0))) n.1 a.1
planned-clear vs main us (Path.txn b inner rest) ts j n a =
    let parts : AllByRecursion (λ t. IsClear t ts) (path_touches inner) × AllByRecursion (λ t. IsClear t ts) (path_touches rest) =
    AllByRecursion-split (λ t. IsClear t ts) (path_touches inner) (path_touches rest) a in
    planned-clear vs main (planned vs main us inner) rest ts
    (planned-clear vs main us inner (path_touches rest
    ++ ts) (subst (AreClear us) (append_assoc (path_touches inner) (path_touches rest) ts) j) n.1
    (each-map (λ t. IsClear t (path_touches rest) × IsClear t ts) (λ t. IsClear t (path_touches rest
    ++ ts)) (λ t c. each-append (λ s. collides t s ≡ false) (path_touches rest) ts c.0 c.1) (path_touches inner)
    (each-both (λ t. IsClear t (path_touches rest)) (λ t. IsClear t ts) (path_touches inner) n.0 parts.0))) n.2 parts.1

-- the changes of a transaction's branch are clear of what follows it
pub inner-clear : (vs : List Version) (main : ℕ) (us : List Mutation) (b : Bool) (inner rest : Path)
    → AreClear us (path_touches (Path.txn b inner rest)) → NoClash (Path.txn b inner rest)
    → AreClear (planned vs main us inner) (path_touches rest)
inner-clear vs main us b inner rest j n = planned-clear vs main us inner (path_touches rest) j n.1 n.0

-- ---- what an operation sees of the changes before it

-- the key of a put holds what it held before the path
pub held-put : (vs : List Version) (us : List Mutation) (k : List ℕ) (ts : List Touch) → AreClear us (Touch.one k ∷ ts)
    → value_now (extend_all vs us) k ≡ value_now vs k
held-put vs us k ts j = value-untouched vs us k
    (each-map (λ u. collides (touch_of u) (Touch.one k) ≡ false) (λ u. same_key u.key k ≡ false) (λ u e. clear-one u k e) us
    (clear-head us (Touch.one k) ts j))

pub put_change-before : (vs : List Version) (main sub : ℕ) (us : List Mutation) (p : PutRequest) (ts : List Touch)
    → AreClear us (Touch.one p.key ∷ ts)
    → put_change (extend_all vs us) main sub p ≡ put_change vs main sub p
put_change-before vs main sub us p ts j = ap (λ o. record { rev = record { main = main; sub = sub }; key = p.key; action = put_action p o })
    (held-put vs us p.key ts j)

-- and the keys that a delete takes are those that no delete before it has taken
pub live-taken : (vs : List Version) (us : List Mutation) (r : KeyRange) (ts : List Touch) → AreClear us (Touch.each r ∷ ts)
    → keys_of (live_now (extend_all vs us) r) ≡ still_live vs us r
live-taken vs us r ts j = live-after vs us r (λ k i. value-after vs us k
    (each-map (λ u. collides (touch_of u) (Touch.each r) ≡ false) (λ u. puts_key k u ≡ false) (λ u e. clear-each u r k e i) us
    (clear-head us (Touch.each r) ts j)))

-- ---- changes in a row

pub extend_all-append : (vs : List Version) (us ws : List Mutation) → extend_all vs (us ++ ws) ≡ extend_all (extend_all vs us) ws
extend_all-append vs [] ws = refl
extend_all-append vs (u ∷ us) ws = extend_all-append (extend vs u) us ws

-- the effect behind some changes, and the changes numbered by them
pub effect-on : (vs : List Version) (main : ℕ) (us ws : List Mutation) (q : Path)
    → (us ++ ws) ++ effect (extend_all vs (us ++ ws)) main (length (us ++ ws)) q ≡ us
    ++ (ws ++ effect (extend_all (extend_all vs us) ws) main (length us + length ws) q)
effect-on vs main us ws q =
    (λ i. (us ++ ws) ++ effect (extend_all-append vs us ws i) main (length-append us ws i) q)
    ∙ append_assoc us ws (effect (extend_all (extend_all vs us) ws) main (length us + length ws) q)

refusal-on : (granted : ℤ → Bool) (c now : ℕ) (vs : List Version) (us ws : List Mutation) (q : Path)
    → run_refusal granted c now (extend_all vs (us ++ ws)) (length (us ++ ws)) q
    ≡ run_refusal granted c now (extend_all (extend_all vs us) ws) (length us + length ws) q
refusal-on granted c now vs us ws q = λ i. run_refusal granted c now (extend_all-append vs us ws i) (length-append us ws i) q

pub put-clear : (vs : List Version) (main : ℕ) (us : List Mutation) (p : PutRequest) (rest : Path)
    → AreClear us (path_touches (Path.put p rest)) → NoClash (Path.put p rest)
    → AreClear (us ++ put_change vs main (length us) p ∷ []) (path_touches rest)
put-clear vs main us p rest j n =
    each-append (λ u. IsClear (touch_of u) (path_touches rest)) us (put_change vs main (length us) p
    ∷ []) (clear-tail us (Touch.one p.key) (path_touches rest) j) (n.0, tt)

pub delete-clear : (vs : List Version) (main : ℕ) (us : List Mutation) (d : DeleteRequest) (rest : Path)
    → AreClear us (path_touches (Path.delete d rest)) → NoClash (Path.delete d rest)
    → AreClear (us ++ deletes_of main (length us) (still_live vs us d.range)) (path_touches rest)
delete-clear vs main us d rest j n =
    each-append (λ u. IsClear (touch_of u) (path_touches rest)) us (deletes_of main (length us) (still_live vs us d.range))
    (clear-tail us (Touch.each d.range) (path_touches rest) j)
    (deletes-clear main (length us) d.range (still_live vs us d.range) (path_touches rest) (still_live-in vs us d.range) n.0)

pub effect-planned : (vs : List Version) (main : ℕ) (us : List Mutation) (q : Path) → AreClear us (path_touches q) → NoClash q
    → planned vs main us q ≡ us ++ effect (extend_all vs us) main (length us) q
unfolding planned effect
effect-planned vs main us Path.end j n = sym (append-nil us)
effect-planned vs main us (Path.range r rest) j n = effect-planned vs main us rest j n
effect-planned vs main us (Path.put p rest) j n =
    let m : Mutation = put_change vs main (length us) p in
    effect-planned vs main (us ++ m ∷ []) rest (put-clear vs main us p rest j n) n.1
    ∙ effect-on vs main us (m ∷ []) rest
    ∙ ap (λ k. us ++ m ∷ effect (extend (extend_all vs us) m) main k rest) (add-one (length us))
    ∙ ap (λ u. us ++ u ∷ effect (extend (extend_all vs us) u) main (suc (length us)) rest) (sym (put_change-before vs main (length us) us p
    (path_touches rest) j))
effect-planned vs main us (Path.delete d rest) j n =
    effect-planned vs main (us ++ deletes_of main (length us) (still_live vs us d.range)) rest (delete-clear vs main us d rest j n) n.1
    ∙ effect-on vs main us (deletes_of main (length us) (still_live vs us d.range)) rest
    ∙ ap (λ ks. us ++ (deletes_of main (length us) ks ++ effect (extend_all (extend_all vs us) (deletes_of main (length us) ks)) main
    (length us + length (deletes_of main (length us) ks)) rest)) (sym (live-taken vs us d.range (path_touches rest) j))
effect-planned vs main us (Path.txn b inner rest) j n =
    let ms : List Mutation = effect (extend_all vs us) main (length us) inner in
    effect-planned vs main (planned vs main us inner) rest (inner-clear vs main us b inner rest j n) n.2
    ∙ ap (λ xs. xs ++ effect (extend_all vs xs) main (length xs) rest) (effect-planned vs main us inner (clear-front us (path_touches inner)
    (path_touches rest) j) n.1)
    ∙ effect-on vs main us ms rest

-- ---- the first refusal

pub refusal-planned : (granted : ℤ → Bool) (c now : ℕ) (vs : List Version) (us : List Mutation) (q : Path) → AreClear us (path_touches q)
    → NoClash q
    → run_refusal granted c now (extend_all vs us) (length us) q ≡ planned_refusal granted c now vs q
unfolding run_refusal planned_refusal
refusal-planned granted c now vs us Path.end j n = refl
refusal-planned granted c now vs us (Path.range r rest) j n = ap (option_or (revision_refusal c now r.revision)) (refusal-planned granted c
    now vs us rest j n)
refusal-planned granted c now vs us (Path.put p rest) j n =
    let m : Mutation = put_change vs (now + 1) (length us) p in
    (λ i. option_or (option_or (refuse_if ((p.ignore_value || p.ignore_lease) && is_none (held-put vs us p.key (path_touches rest) j i))
    KeyMissing) (put_lease_refusal granted p))
    (run_refusal granted c now (extend (extend_all vs us) (put_change-before vs (now + 1) (length us) us p (path_touches rest) j i))
    (suc (length us)) rest))
    ∙ ap (option_or (put_refusal granted vs p)) (sym (refusal-on granted c now vs us (m ∷ []) rest
    ∙ ap (λ k. run_refusal granted c now (extend (extend_all vs us) m) k rest) (add-one (length us)))
    ∙ refusal-planned granted c now vs (us ++ m ∷ []) rest (put-clear vs (now + 1) us p rest j n) n.1)
refusal-planned granted c now vs us (Path.delete d rest) j n =
    let ws : List Mutation = deletes_of (now + 1) (length us) (still_live vs us d.range) in
    ap (λ ks. run_refusal granted c now (extend_all (extend_all vs us) (deletes_of (now + 1) (length us) ks))
    (length us + length (deletes_of (now + 1) (length us) ks)) rest) (live-taken vs us d.range (path_touches rest) j)
    ∙ sym (refusal-on granted c now vs us ws rest)
    ∙ refusal-planned granted c now vs (us ++ ws) rest (delete-clear vs (now + 1) us d rest j n) n.1
refusal-planned granted c now vs us (Path.txn b inner rest) j n =
    let ms : List Mutation = effect (extend_all vs us) (now + 1) (length us) inner in
    let front : AreClear us (path_touches inner) = clear-front us (path_touches inner) (path_touches rest) j in
    ap (λ o. option_or o (run_refusal granted c now (extend_all (extend_all vs us) ms) (length us + length ms) rest))
    (refusal-planned granted c now vs us inner front n.1)
    ∙ ap (option_or (planned_refusal granted c now vs inner)) (sym (refusal-on granted c now vs us ms rest)
    ∙ sym (ap (λ xs. run_refusal granted c now (extend_all vs xs) (length xs) rest) (effect-planned vs (now + 1) us inner front n.1))
    ∙ refusal-planned granted c now vs (planned vs (now + 1) us inner) rest (inner-clear vs (now + 1) us b inner rest j n) n.2)

-- Levels of extremes over a list.
use Rattle.std.proofs.Common.{◌≡◌, ◌≢◌, ◌∙◌, ℕ, ◌+◌, ◌*◌, ◌/◌, ◌%◌, ◌<◌, ◌≤◌, List, [], ◌∷◌, ◌++◌, length, Vec, Bool, true, ◌&&◌, refl, sym, ap, subst, append_assoc, arith}
use Rattle.std.proofs.lemmas.List.{append-nil}
use Rattle.std.specs.List.{list_all}
use Rattle.std.specs.declared.alloc.Global.{Global}
use Rattle.kv_model.specs.declared.call.Compare.{Compare}
use Rattle.kv_model.specs.declared.call.Relation.TheVariants.{IsNotEqual}
use Rattle.range_view.specs.declared.reply.KvRef.{KvRef}
use Rattle.live_keys.specs.declared.extremes.Extremes.{Extremes}
use Rattle.live_keys.specs.declared.field.Field.{Field}
use Rattle.live_keys.specs.declared.part.Part.{Part}
use Rattle.live_keys.specs.declared.tree.Tree.{Tree}
use Rattle.live_keys.specs.Fields.{field_of}
use Rattle.live_keys.specs.Extremes.{passes, meets, of_two, joined, lowest, AreLevels, IsTree}
use Rattle.live_keys.specs.Parts.{between, of_part, halved, paired, paired_from, pairs_by}
use Rattle.live_keys.proofs.Neighbours.{pairs-length, pairs-part, pairs-room}
use Rattle.live_keys.proofs.Orders.{meets-joined, meets-two}

-- the lowest level is what the levels are over
pub lowest-is : (f : Field) (es : List Extremes) (ls : List (Vec Extremes Global)) → AreLevels f es ls → lowest ls ≡ es
lowest-is f es [] h = sym h
lowest-is f es (l ∷ ls) h = h.0

-- levels over a list are levels over their own lowest
pub levels-own : (f : Field) (es : List Extremes) (ls : List (Vec Extremes Global)) → AreLevels f es ls → AreLevels f (lowest ls) ls
levels-own f es ls h = subst (λ xs. AreLevels f xs ls) (sym (lowest-is f es ls h)) h

half-room : (n m : ℕ) → n ≤ m → 2 * (n / 2) ≤ m
half-room n m h = omega (arith, h)

-- the pairs within a part of a level meet a compare as the level above says
pub above-meets : (c : Compare) (p : Part) (es : List Extremes) (ls : List (Vec Extremes Global))
    → AreLevels (field_of c.operand) (pairs_by (joined (field_of c.operand)) es) ls → p.to ≤ length es
    → list_all (meets c) (paired p es) ≡ list_all (meets c) (of_part (halved p) (lowest ls))
above-meets c p es ls h m =
    pairs-part (meets c) (meets c) (joined (field_of c.operand)) (λ a b. meets-joined c.relation c.operand a b)
    (p.from / 2 + p.from % 2) (p.to / 2) es (half-room p.to (length es) m)
    ∙ ap (λ xs. list_all (meets c) (of_part (halved p) xs)) (sym (lowest-is (field_of c.operand) (pairs_by (joined (field_of c.operand)) es) ls h))

pub above-room : (f : Field) (p : Part) (es : List Extremes) (ls : List (Vec Extremes Global))
    → AreLevels f (pairs_by (joined f) es) ls → p.to ≤ length es → p.to / 2 ≤ length (lowest ls)
above-room f p es ls h m =
    subst (λ xs. p.to / 2 ≤ length xs) (sym (lowest-is f (pairs_by (joined f) es) ls h)) (pairs-room (joined f) es p.to m)

-- and those within a part of the list as the tree says
pub tree-meets : (c : Compare) (p : Part) (kvs : List KvRef) (t : Tree) → c.relation ≢ IsNotEqual → t.field ≡ field_of c.operand
    → IsTree kvs t → p.to ≤ length kvs
    → list_all (passes c) (paired p kvs) ≡ list_all (meets c) (of_part (halved p) (lowest t.levels.items))
tree-meets c p kvs t n e h m =
    pairs-part (passes c) (meets c) (of_two (field_of c.operand)) (λ a b. meets-two c.relation c.operand n a b)
    (p.from / 2 + p.from % 2) (p.to / 2) kvs (half-room p.to (length kvs) m)
    ∙ ap (λ f. list_all (meets c) (of_part (halved p) (pairs_by (of_two f) kvs))) (sym e)
    ∙ ap (λ xs. list_all (meets c) (of_part (halved p) xs)) (sym (lowest-is t.field (pairs_by (of_two t.field) kvs) t.levels.items h))

pub tree-room : (c : Compare) (p : Part) (kvs : List KvRef) (t : Tree) → IsTree kvs t → p.to ≤ length kvs
    → p.to / 2 ≤ length (lowest t.levels.items)
tree-room c p kvs t h m =
    subst (λ xs. p.to / 2 ≤ length xs) (sym (lowest-is t.field (pairs_by (of_two t.field) kvs) t.levels.items h))
    (pairs-room (of_two t.field) kvs p.to m)

pub tree-levels : (c : Compare) (kvs : List KvRef) (t : Tree) → t.field ≡ field_of c.operand → IsTree kvs t
    → AreLevels (field_of c.operand) (lowest t.levels.items) t.levels.items
tree-levels c kvs t e h =
    subst (λ f. AreLevels f (lowest t.levels.items) t.levels.items) e (levels-own t.field (pairs_by (of_two t.field) kvs) t.levels.items h)

-- ---- one level

-- what lies above the lowest of some levels
pub levels-above : (f : Field) (ls above : List (Vec Extremes Global)) (l : Vec Extremes Global) → ls ≡ l ∷ above → AreLevels f (lowest ls) ls
    → AreLevels f (pairs_by (joined f) l.items) above
levels-above f ls above l e h = (subst (λ xs. AreLevels f (lowest xs) xs) e h).1

pub level-room : (ls above : List (Vec Extremes Global)) (l : Vec Extremes Global) → ls ≡ l ∷ above → (n : ℕ) → n ≤ length (lowest ls)
    → n ≤ length l.items
level-room ls above l e n h = subst (λ xs. n ≤ length (lowest xs)) e h

pub rest-levels : (f : Field) (p q : Part) (ls above : List (Vec Extremes Global)) (l : Vec Extremes Global) → ls ≡ l ∷ above
    → AreLevels f (lowest ls) ls → AreLevels f (lowest above) above
rest-levels f p q ls above l e h = levels-own f (pairs_by (joined f) l.items) above (levels-above f ls above l e h)

pub rest-room : (f : Field) (p q : Part) (ls above : List (Vec Extremes Global)) (l : Vec Extremes Global) → ls ≡ l ∷ above
    → AreLevels f (lowest ls) ls → p.to ≤ length (lowest ls) → q ≡ halved p → q.to ≤ length (lowest above)
rest-room f p q ls above l e h m g =
    subst (λ r. r.to ≤ length (lowest above)) (sym g) (above-room f p l.items above (levels-above f ls above l e h) (level-room ls above l e p.to m))

-- where its ends meet a compare, a part does as what is over its pairs
pub ends-met : (c : Compare) (p q : Part) (ls above : List (Vec Extremes Global)) (l : Vec Extremes Global) (es : List Extremes)
    (first last rest : Bool) → ls ≡ l ∷ above → es ≡ l.items
    → AreLevels (field_of c.operand) (lowest ls) ls → p.to ≤ length (lowest ls) → q ≡ halved p
    → list_all (meets c) (of_part p es) ≡ (first && list_all (meets c) (between (paired_from p) p.to es))
    → list_all (meets c) (between (paired_from p) p.to es) ≡ (last && list_all (meets c) (paired p es))
    → first ≡ true → last ≡ true → rest ≡ list_all (meets c) (of_part q (lowest above))
    → rest ≡ list_all (meets c) (of_part p (lowest ls))
ends-met c p q ls above l es first last rest e f h m g one two starts ends r =
    r ∙ ap (λ k. list_all (meets c) (of_part k (lowest above))) g
    ∙ sym (above-meets c p l.items above (levels-above (field_of c.operand) ls above l e h) (level-room ls above l e p.to m))
    ∙ ap (λ xs. list_all (meets c) (paired p xs)) (sym f)
    ∙ sym (one ∙ ap (λ b. b && list_all (meets c) (between (paired_from p) p.to es)) starts ∙ two ∙ ap (λ b. b && list_all (meets c) (paired p es)) ends)
    ∙ ap (λ xs. list_all (meets c) (of_part p xs)) f
    ∙ ap (λ xs. list_all (meets c) (of_part p (lowest xs))) (sym e)

-- and a part of the list as the tree says
pub ends-passed : (c : Compare) (p q : Part) (kvs : List KvRef) (t : Tree) (first last rest : Bool) → c.relation ≢ IsNotEqual
    → t.field ≡ field_of c.operand → IsTree kvs t → p.to ≤ length kvs → q ≡ halved p
    → list_all (passes c) (of_part p kvs) ≡ (first && list_all (passes c) (between (paired_from p) p.to kvs))
    → list_all (passes c) (between (paired_from p) p.to kvs) ≡ (last && list_all (passes c) (paired p kvs))
    → first ≡ true → last ≡ true → rest ≡ list_all (meets c) (of_part q (lowest t.levels.items))
    → rest ≡ list_all (passes c) (of_part p kvs)
ends-passed c p q kvs t first last rest n e h m g one two starts ends r =
    r ∙ ap (λ k. list_all (meets c) (of_part k (lowest t.levels.items))) g
    ∙ sym (tree-meets c p kvs t n e h m)
    ∙ sym (one ∙ ap (λ b. b && list_all (passes c) (between (paired_from p) p.to kvs)) starts ∙ two ∙ ap (λ b. b && list_all (passes c) (paired p kvs)) ends)

-- ---- growth

pub level-more : (f : Field) (first above : List Extremes) (level : Vec Extremes Global) (so_far pushed : List (Vec Extremes Global))
    → ((rest : List (Vec Extremes Global)) → AreLevels f level.items rest → AreLevels f first (so_far ++ rest))
    → above ≡ pairs_by (joined f) level.items → pushed ≡ so_far ++ level ∷ []
    → (rest : List (Vec Extremes Global)) → AreLevels f above rest → AreLevels f first (pushed ++ rest)
level-more f first above level so_far pushed all e g rest h =
    subst (AreLevels f first) (sym (ap (λ ls. ls ++ rest) g ∙ append_assoc so_far (level ∷ []) rest))
    (all (level ∷ rest) (refl, subst (λ es. AreLevels f es rest) e h))

pub level-less : (f : Field) (level above : List Extremes) → above ≡ pairs_by (joined f) level → 0 < length level → length above < length level
level-less f level above e l =
    let most : 2 * length (pairs_by (joined f) level) ≤ length level = pairs-length (joined f) level in
    let same : length above ≡ length (pairs_by (joined f) level) = ap length e in
    omega (arith, most, same, l)

pub levels-end : (f : Field) (first level : List Extremes) (so_far : List (Vec Extremes Global))
    → ((rest : List (Vec Extremes Global)) → AreLevels f level rest → AreLevels f first (so_far ++ rest))
    → level ≡ [] → AreLevels f first so_far
levels-end f first level so_far all e = subst (AreLevels f first) (append-nil so_far) (all [] e)

-- What the tables come to by what is done on them.
use Rattle.std.proofs.Common.{◌≡◌, List, ◌++◌, ◌∷◌, fold, map, sym, ap, ◌∙◌}
use Rattle.std.proofs.lemmas.List.Sums.{fold-append}
use Rattle.kv_model.specs.declared.feed.Op.{Op}
use Rattle.kv_model.specs.Feed.{Published, published}
use Rattle.store_laws.specs.Snapshots.{Stored, absorb, blank, store_of}
use Rattle.event_book.specs.Events as events
use Rattle.event_book.specs.Publishing.{published_by}

-- the tables of all that was done are those of a front that tells all of it
pub tells_all : (t : Stored) (ops : List Published) (log : List events.Entry) → published_by log ≡ ops → t ≡ store_of ops
    → t ≡ store_of (published_by log)
tells_all t ops log all is = is ∙ ap store_of (sym all)

-- and the copy that was shown comes to them by what was done since
pub comes_to : (shown next : Stored) (log : List events.Entry) (ops : List Published) → shown ≡ store_of (published_by log)
    → next ≡ store_of (published_by log ++ ops) → fold absorb shown ops ≡ next
comes_to shown next log ops is all = ap (λ s. fold absorb s ops) is ∙ sym (fold-append absorb blank (published_by log) ops) ∙ sym all

-- ---- one operation of a list

-- it is taken in
pub takes_one : (t u : Stored) (op : Op) (rest all : List Op) → all ≡ op ∷ rest → u ≡ absorb t (published op)
    → fold absorb u (map published rest) ≡ fold absorb t (map published all)
takes_one t u op rest all cut is = ap (λ s. fold absorb s (map published rest)) is ∙ ap (λ l. fold absorb t (map published l)) (sym cut)

-- or it is put back
pub goes_back : (t u : Stored) (op : Op) (rest all back : List Op) → all ≡ op ∷ rest → u ≡ t → back ≡ op ∷ rest
    → fold absorb u (map published back) ≡ fold absorb t (map published all)
goes_back t u op rest all back cut is again = ap (λ s. fold absorb s (map published back)) is ∙ ap (λ l. fold absorb t (map published l)) (again ∙ sym cut)

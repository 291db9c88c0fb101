-- Enums of the program beside those of the model: what is read of the one is read of the other.
use Rattle.std.proofs.Common.{◌≡◌, ℕ, zero, suc, List, [], ◌∷◌, map, Option, None, Some, Result, Ok, Err, refl, ap, ◌∙◌}
use Rattle.std.specs.Prelude.{option_map, slice_get}
use Rattle.serde_json.specs.Data.{unsigned, negative, float, Data, null, boolean, number, string, array, object, Members}
use Rattle.kv_model.specs.Requests.{Read, enum_of, field, given, some_or, bad_field, or_default}
use Rattle.gateway_read.specs.declared.bad.Bad.{Bad}
use Rattle.gateway_read.specs.declared.bad.Bad.TheVariants.{NotJson, BadField, BadBase64, NoPath, TooLong, Memory}
use Rattle.gateway_read.specs.Reading.{Fails, Tells}
use Rattle.gateway_read.proofs.Readings.{named_value-map}

-- a table under f
abbrev pub under : {A B : Type 0} → (A → B) → List (List ℕ × A) → List (List ℕ × B)
under f table = map (λ e. (e.0, f e.1)) table

slice_get-under : {A B : Type 0} (f : A → B) (table : List (List ℕ × A)) (n : ℕ)
    → option_map (λ e. e.1) (slice_get (under f table) n) ≡ option_map f (option_map (λ e. e.1) (slice_get table n))
slice_get-under f [] n = refl
slice_get-under f (e ∷ table) zero = refl
slice_get-under f (e ∷ table) (suc n) = slice_get-under f table n

enum_of-under : {A B : Type 0} (f : A → B) (table : List (List ℕ × A)) (d : Data)
    → enum_of (under f table) d ≡ option_map f (enum_of table d)
enum_of-under f table null = refl
enum_of-under f table (boolean b) = refl
enum_of-under f table (number (unsigned n)) = slice_get-under f table n
enum_of-under f table (number (negative z)) = refl
enum_of-under f table (number (float x)) = refl
enum_of-under f table (string s) = named_value-map f table s
enum_of-under f table (array ds) = refl
enum_of-under f table (object ms) = refl

abbrev read_map : {A B : Type 0} → (A → B) → Read A → Read B
read_map f (Ok x) = Ok (f x)
read_map f (Err e) = Err e

read_map-some_or : {A B : Type 0} (f : A → B) (name : List ℕ) (o : Option A)
    → some_or (bad_field name) (option_map f o) ≡ read_map f (some_or (bad_field name) o)
read_map-some_or f name None = refl
read_map-some_or f name (Some x) = refl

or_default-under : {A B : Type 0} (f : A → B) (x : A) (table : List (List ℕ × A)) (name : List ℕ) (o : Option Data)
    → or_default (f x) (λ d. some_or (bad_field name) (enum_of (under f table) d)) o
    ≡ read_map f (or_default x (λ d. some_or (bad_field name) (enum_of table d)) o)
or_default-under f x table name None = refl
or_default-under f x table name (Some d) = ap (some_or (bad_field name)) (enum_of-under f table d)
    ∙ read_map-some_or f name (enum_of table d)

fails_mapped : {A B : Type 0} (f : A → B) (e : Bad) (m : Read A) → Fails e m → Fails e (read_map f m)
fails_mapped f NotJson m h = ap (read_map f) h
fails_mapped f (BadField x) m h = ap (read_map f) h
fails_mapped f (BadBase64 x) m h = ap (read_map f) h
fails_mapped f NoPath m h = ap (read_map f) h
fails_mapped f TooLong m h = ap (read_map f) h
fails_mapped f Memory m h = tt

mapped : {A B : Type 0} (f : A → B) (r : Result A Bad) (m : Read A) → Tells (λ x. x) r m → Tells f r (read_map f m)
mapped f (Ok x) m h = ap (read_map f) h
mapped f (Err e) m h = (fails_mapped f e m h.0, h.1)

pub field_under : {A B : Type 0} (f : A → B) (x : A) (table : List (List ℕ × A)) (name : List ℕ) (ms : Members) (r : Result A Bad)
    → Tells (λ y. y) r (field x (enum_of table) name ms) → Tells f r (field (f x) (enum_of (under f table)) name ms)
field_under f x table name ms r h = rw (or_default-under f x table name (given name ms)) (mapped f r _ h)

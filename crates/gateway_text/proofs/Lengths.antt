-- How long the texts of answers are, at most, by the rooms that are taken for their numbers.
use Rattle.std.proofs.Common.{◌≡◌, ◌≤◌, ◌<◌, ◌+◌, ◌-◌, ◌*◌, ◌/◌, ◌%◌, ◌^◌, ◌==◌, ◌&&◌, ◌⊎◌, inl, inr, ℕ, ℤ, pos, negsuc, zero, suc, List, [], ◌∷◌, ◌++◌}
use Rattle.std.proofs.Common.{length, get_or, Bool, true, false, not, cond, refl, sym, ap, subst, arith}
use Rattle.std.specs.Prelude.{Option, None, Some, option_map, nat_le, codes, decimal, replicate, FitsSigned}
use Rattle.std.specs.Int.Count.{count_leading_zeros}
use Rattle.std.specs.Fmt.{digits, signed_decimal}
use Rattle.std.specs.Int.{w64}
use Rattle.std.specs.Int.Signed.{mag}
use Rattle.std.specs.Ordering.{int_eq}
use Rattle.std.proofs.lemmas.Bool.{cases_eq, and_parts, leb-true}
use Rattle.std.proofs.lemmas.Fmt.{length-decimal-le, length_signed_le}
use Rattle.std.proofs.lemmas.List.{length-append, length-replicate}
use Rattle.std.proofs.lemmas.List.Sums.{AllPass-from_list_all}
use Rattle.std.proofs.lemmas.Nat.{leading_length}
use Rattle.json.specs.Print.{escape, escape_byte, quoted}
use Rattle.json.proofs.Printed.Strings.{escape_byte_plain}
use Rattle.base64.specs.Engines.{standard}
use Rattle.base64.specs.GeneralPurpose.{encode_of, IsBytes}
use Rattle.base64.specs.Rfc4648.{encode_symbols, padding_len}
use Rattle.base64.proofs.RoundTrip.{length-encode_symbols}
use Rattle.serde_json.specs.Data.{Data, Members, Num}
use Rattle.serde_json.specs.Written.{compact_text, members_text}
use Rattle.kv_model.specs.declared.ids.Ids.{Ids}
use Rattle.kv_model.specs.Lists.{is_empty}
use Rattle.kv_model.specs.Answers.{header, members, object, with_field, nat_field, int_field, text_of, bytes_field, bytes_text}
use Rattle.kv_model.specs.Answers.{event_text, event_type, fault, fault_text, key_value_text, lease_text, put_text, tombstone_text}
use Rattle.kv_model.specs.Answers.{version_text}
use Rattle.kv_model.specs.declared.version.Body.{Body}
use Rattle.kv_model.specs.declared.version.Body.TheVariants.{Put, Gone}
use Rattle.kv_model.specs.declared.version.Version.{Version}
use Rattle.kv_model.specs.History.{KeyValue, key_value}
use Rattle.range_view.specs.declared.reply.KvRef.{KvRef}
use Rattle.range_view.specs.Replies.{kv_view}
use Rattle.watch_hub.specs.declared.message.Event.{Event}
use Rattle.gateway_text.specs.Rooms.{ArePlain, event_len, held_len, is_plain, key_len, lease_len, member_len, text_len, version_len}
use Rattle.gateway_text.proofs.Bare.{escaped_decimal}

-- ---- objects

abbrev pub fields_len : List (List ℕ × Option Data) → ℕ
fields_len [] = 0
fields_len (f ∷ fs) = member_len f.0 f.1 + fields_len fs

later-len : (q t r : List ℕ) (n : ℕ) → length r ≡ n + 1 → length (44 ∷ (q ++ 58 ∷ (t ++ r))) ≡ length q + 2 + length t + n + 1
later-len q t r n e = omega (arith, e, length-append q (58 ∷ (t ++ r)), length-append t r)

first-len : (q t r : List ℕ) (n : ℕ) → length r ≡ n + 1 → length (q ++ 58 ∷ (t ++ r)) ≡ length q + 2 + length t + n
first-len q t r n e = omega (arith, e, length-append q (58 ∷ (t ++ r)), length-append t r)

field-later : (name : List ℕ) (o : Option Data) (rest : Members) (n : ℕ) → length (members_text true rest) ≡ n + 1
    → length (members_text true (with_field name o rest)) ≡ member_len name o + n + 1
field-later name None rest n e = omega (arith, e)
field-later name (Some d) rest n e = later-len (quoted name) (compact_text d) (members_text true rest) n e

members-later : (fs : List (List ℕ × Option Data)) → length (members_text true (members fs)) ≡ fields_len fs + 1
members-later [] = refl
members-later (f ∷ fs) = field-later f.0 f.1 (members fs) (fields_len fs) (members-later fs)

-- the first member has no comma before it
field-first : (name : List ℕ) (o : Option Data) (rest : Members) (n m : ℕ) → length (members_text true rest) ≡ n + 1
    → length (members_text false rest) ≤ m + 1 → n ≤ m + 1 → member_len name o + n ≤ m + 1
    → length (members_text false (with_field name o rest)) ≤ m + 1
field-first name None rest n m e f l h = f
field-first name (Some d) rest n m e f l h =
    omega (arith, h, first-len (quoted name) (compact_text d) (members_text true rest) n e)

members-first : (fs : List (List ℕ × Option Data)) (m : ℕ) → fields_len fs ≤ m + 1 → length (members_text false (members fs)) ≤ m + 1
members-first [] m h = omega arith
members-first (f ∷ fs) m h =
    let less : fields_len fs ≤ m + 1 = omega (arith, h) in
    field-first f.0 f.1 (members fs) (fields_len fs) m (members-later fs) (members-first fs m less) less h

-- an object whose members take no more than so much, and one that is not empty takes one byte more
pub object-most : (fs : List (List ℕ × Option Data)) (m : ℕ) → fields_len fs ≤ m + 1 → text_len (object fs) ≤ m + 2
object-most fs m h = omega (arith, members-first fs m h)

-- ---- numbers

abbrev below : (ℕ → Bool) → ℕ → Bool
below p zero = true
below p (suc n) = p n && below p n

below-at : (p : ℕ → Bool) (n i : ℕ) → below p n ≡ true → i < n → p i ≡ true
below-at p zero i h l = absurd (omega (arith, l))
below-at p (suc n) i h l = over (and_parts (p n) (below p n) h) (below-at p n i) (cases_eq i n)
  where
    over : (p n ≡ true) × (below p n ≡ true) → (below p n ≡ true → i < n → p i ≡ true) → (i ≡ n) ⊎ (i ≡ n → ⊥) → p i ≡ true
    over parts rest (inl same) = subst (λ k. p k ≡ true) (sym same) parts.0
    over parts rest (inr other) = rest parts.1 (omega (arith, l, other))

-- so many bits have no more digits
abbrev enough : ℕ → Bool
enough m = nat_le (2 ^ m) (10 ^ (m * 5 / 16 + 1))

all-enough : below enough 65 ≡ true
all-enough = refl

pub digits-enough : (n : ℕ) → n < 2 ^ 64 → length (decimal n) ≤ (64 - count_leading_zeros 64 n) * 5 / 16 + 1
digits-enough n h =
    let (m, sum, low, high) = leading_length 64 n h in
    let few : m < 65 = omega (arith, sum) in
    let bits : m ≡ 64 - count_leading_zeros 64 n = omega (arith, sum) in
    let wide : 2 ^ m ≤ 10 ^ (m * 5 / 16 + 1) = leb-true (2 ^ m) (10 ^ (m * 5 / 16 + 1)) (below-at enough 65 m all-enough few) in
    let fits : n < 10 ^ (m * 5 / 16 + 1) = omega (arith, low, wide) in
    subst (λ k. length (decimal n) ≤ k * 5 / 16 + 1) bits (length-decimal-le (m * 5 / 16 + 1) n (omega arith) fits h)

-- a number as a string
number-len : (n room : ℕ) → n < 2 ^ 64 → length (decimal n) ≤ room → text_len (text_of (decimal n)) ≤ room + 2
number-len n room small h = omega (arith, h, length-append (escape (decimal n)) (34 ∷ []), ap length (escaped_decimal n small))

pub number-most : (name : List ℕ) (n room : ℕ) → n < 2 ^ 64 → length (decimal n) ≤ room
    → member_len name (nat_field n) ≤ length (quoted name) + 4 + room
number-most name n room small h = by (n == 0)
  where
    by : (b : Bool) → member_len name (cond b None (Some (text_of (decimal n)))) ≤ length (quoted name) + 4 + room
    by true = omega arith
    by false = omega (arith, number-len n room small h)

-- ---- the header

pub header-most : (ids : Ids) (r a b c : ℕ) → ids.cluster < 2 ^ 64 → ids.member < 2 ^ 64 → r < 2 ^ 64 → length (decimal ids.cluster) ≤ a
    → length (decimal ids.member) ≤ b → length (decimal r) ≤ c → text_len (header ids r) ≤ 62 + a + b + c
unfolding header escape_byte digits
header-most ids r a b c x y z h i j =
    let cluster : member_len (codes "cluster_id") (nat_field ids.cluster) ≤ 12 + 4 + a = number-most (codes "cluster_id") ids.cluster a x h in
    let member : member_len (codes "member_id") (nat_field ids.member) ≤ 11 + 4 + b = number-most (codes "member_id") ids.member b y i in
    let term : member_len (codes "raft_term") (nat_field 1) ≡ 16 = refl in
    let revision : member_len (codes "revision") (nat_field r) ≤ 10 + 4 + c = number-most (codes "revision") r c z j in
    omega (
      arith,
      object-most ((codes "cluster_id", nat_field ids.cluster) ∷ (codes "member_id", nat_field ids.member)
          ∷ (codes "raft_term", nat_field 1) ∷ (codes "revision", nat_field r) ∷ []) (60 + a + b + c) (omega (arith, cluster, member, term, revision)),
    )

-- ---- bytes in base64

abbrev table : List ℕ
table = standard.encode_table

plain-byte : (b : ℕ) → is_plain b ≡ true → escape_byte b ≡ b ∷ []
plain-byte b h = escape_byte_plain b (λ e. let x : is_plain 34 ≡ true = subst (λ c. is_plain c ≡ true) e h in cc x)
    (λ e. let x : is_plain 92 ≡ true = subst (λ c. is_plain c ≡ true) e h in cc x)
    (leb-true 32 b (and_parts (nat_le 32 b) (not (b == 34)) (and_parts (nat_le 32 b && not (b == 34)) (not (b == 92)) h).0).0)

plain-escape : (bs : List ℕ) → ArePlain bs → escape bs ≡ bs
plain-escape [] h = refl
plain-escape (b ∷ bs) h = λ i. plain-byte b h.0 i ++ plain-escape bs h.1 i

plain-append : (xs ys : List ℕ) → ArePlain xs → ArePlain ys → ArePlain (xs ++ ys)
plain-append [] ys h k = k
plain-append (x ∷ xs) ys h k = (h.0, plain-append xs ys h.1 k)

plain-symbol : (i : ℕ) → i < 64 → is_plain (get_or table i 0) ≡ true
plain-symbol i h = AllPass-from_list_all is_plain table refl i 0 h

plain-symbols : (bs : List ℕ) → IsBytes bs → ArePlain (encode_symbols table bs)
unfolding encode_symbols
plain-symbols [] h = tt
plain-symbols (a ∷ []) h = (plain-symbol (a / 4) (omega (arith, h 0)), (plain-symbol (a % 4 * 16) (omega arith), tt))
plain-symbols (a ∷ b ∷ []) h = (
  plain-symbol (a / 4) (omega (arith, h 0)),
  (plain-symbol (a % 4 * 16 + b / 16) (omega (arith, h 1)), (plain-symbol (b % 16 * 4) (omega arith), tt)),
)
plain-symbols (a ∷ b ∷ c ∷ bs) h = (
  plain-symbol (a / 4) (omega (arith, h 0)),
  (
    plain-symbol (a % 4 * 16 + b / 16) (omega (arith, h 1)),
    (
      plain-symbol (b % 16 * 4 + c / 64) (omega (arith, h 2)),
      (plain-symbol (c % 64) (omega arith), plain-symbols bs (λ i. h (suc (suc (suc i))))),
    ),
  ),
)

plain-padding : (n : ℕ) → ArePlain (replicate n 61)
plain-padding zero = tt
plain-padding (suc n) = (refl, plain-padding n)

encoded-plain : (bs : List ℕ) → IsBytes bs → ArePlain (encode_of standard bs)
encoded-plain bs h = plain-append (encode_symbols table bs) (replicate (padding_len (length bs)) 61) (plain-symbols bs h)
    (plain-padding (padding_len (length bs)))

encoded-len : (bs : List ℕ) → length (encode_of standard bs) ≤ 4 * (length bs / 3) + 4
encoded-len bs =
    omega (
      arith,
      length-append (encode_symbols table bs) (replicate (padding_len (length bs)) 61),
      length-encode_symbols table bs,
      length-replicate {A = ℕ} (padding_len (length bs)) 61,
    )

pub bytes-len : (bs : List ℕ) → IsBytes bs → text_len (bytes_text bs) ≤ 4 * (length bs / 3) + 6
unfolding bytes_text
bytes-len bs h =
    omega (
      arith,
      encoded-len bs,
      length-append (escape (encode_of standard bs)) (34 ∷ []),
      ap length (plain-escape (encode_of standard bs) (encoded-plain bs h)),
    )

pub bytes-most : (name bs : List ℕ) → member_len name (bytes_field bs) ≤ length (quoted name) + 2 + text_len (bytes_text bs)
bytes-most name bs = by (is_empty bs)
  where
    by : (b : Bool) → member_len name (cond b None (Some (bytes_text bs))) ≤ length (quoted name) + 2 + text_len (bytes_text bs)
    by true = omega arith
    by false = omega arith

pub base64-most : (bs : List ℕ) → IsBytes bs → text_len (bytes_text bs) ≤ (length bs / 3 + 1) * 4 + 2
base64-most bs h = omega (arith, bytes-len bs h)

-- ---- a lease

fits-mag : (z : ℤ) → FitsSigned w64 z → mag z < 2 ^ 63
fits-mag z h = omega (arith, h.sfits)

signed-escape : (z : ℤ) → mag z < 2 ^ 63 → escape (signed_decimal z) ≡ signed_decimal z
signed-escape (pos n) h = escaped_decimal n (omega arith)
signed-escape (negsuc n) h = λ i. plain-byte 45 refl i ++ escaped_decimal (suc n) (omega arith) i

signed-len : (z : ℤ) → mag z < 2 ^ 63 → text_len (text_of (signed_decimal z)) ≤ 22
signed-len z h =
    omega (arith, length_signed_le 19 z (omega arith) h, length-append (escape (signed_decimal z)) (34 ∷ []), ap length (signed-escape z h))

pub signed-most : (name : List ℕ) (z : ℤ) → FitsSigned w64 z → member_len name (int_field z) ≤ length (quoted name) + 24
signed-most name z h = by (int_eq z (pos 0))
  where
    by : (b : Bool) → member_len name (cond b None (Some (text_of (signed_decimal z)))) ≤ length (quoted name) + 24
    by true = omega arith
    by false = omega (arith, signed-len z (fits-mag z h))

pub lease-most : (z : ℤ) → FitsSigned w64 z → member_len (codes "lease") (int_field z) ≤ 31
unfolding escape_byte
lease-most z h = let most : member_len (codes "lease") (int_field z) ≤ 7 + 24 = signed-most (codes "lease") z h in omega (arith, most)

-- ---- a key-value

pub kv-most : (kv : KeyValue) (a b c l : ℕ) → kv.create < 2 ^ 64 → kv.modified < 2 ^ 64 → kv.version < 2 ^ 64
    → length (decimal kv.create) ≤ a → length (decimal kv.modified) ≤ b → length (decimal kv.version) ≤ c
    → member_len (codes "lease") (int_field kv.lease) ≤ l
    → 1 + text_len (key_value_text kv) ≤ text_len (bytes_text kv.key) + text_len (bytes_text kv.value) + (70 + a + b + c + l)
unfolding key_value_text escape_byte digits
kv-most kv a b c l x y z h i j leased =
    let create : member_len (codes "create_revision") (nat_field kv.create) ≤ 17 + 4 + a = number-most (codes "create_revision") kv.create a x h in
    let key : member_len (codes "key") (bytes_field kv.key) ≤ 5 + 2 + text_len (bytes_text kv.key) = bytes-most (codes "key") kv.key in
    let modified : member_len (codes "mod_revision") (nat_field kv.modified) ≤ 14 + 4 + b = number-most (codes "mod_revision") kv.modified b y i in
    let value : member_len (codes "value") (bytes_field kv.value) ≤ 7 + 2 + text_len (bytes_text kv.value) = bytes-most (codes "value") kv.value in
    let version : member_len (codes "version") (nat_field kv.version) ≤ 9 + 4 + c = number-most (codes "version") kv.version c z j in
    omega (
      arith,
      object-most ((codes "create_revision", nat_field kv.create) ∷ (codes "key", bytes_field kv.key)
          ∷ (codes "lease", int_field kv.lease) ∷ (codes "mod_revision", nat_field kv.modified) ∷ (codes "value", bytes_field kv.value)
          ∷ (codes "version", nat_field kv.version) ∷ [])
          (67 + a + b + c + l + text_len (bytes_text kv.key) + text_len (bytes_text kv.value))
          (omega (arith, create, key, leased, modified, value, version)),
    )

-- ---- a Put's answer that tells what was held

pub held-most : (h : Data) (kv : KeyValue) (m n : ℕ) → text_len h ≤ m → 1 + text_len (key_value_text kv) ≤ n
    → text_len (put_text h (Some kv)) ≤ n + (m + 23)
unfolding put_text escape_byte
held-most h kv m n x y =
    let first : member_len (codes "header") (Some h) ≡ 10 + text_len h = refl in
    let held : member_len (codes "prev_kv") (Some (key_value_text kv)) ≡ 11 + text_len (key_value_text kv) = refl in
    omega (
      arith,
      object-most ((codes "header", Some h) ∷ (codes "prev_kv", Some (key_value_text kv)) ∷ [])
          (20 + text_len h + text_len (key_value_text kv)) (omega (arith, first, held)),
      x,
      y,
    )

-- ---- a key

pub key-most : (k : List ℕ) → IsBytes k → key_len k ≤ length k / 3 * 4 + 32
key-most k h = omega (arith, bytes-len k h)

-- ---- events

pub tombstone-most : (k : List ℕ) (r d : ℕ) → r < 2 ^ 64 → length (decimal r) ≤ d
    → text_len (tombstone_text k r) ≤ text_len (bytes_text k) + d + 26
unfolding tombstone_text escape_byte digits
tombstone-most k r d small low =
    let key : member_len (codes "key") (bytes_field k) ≤ 5 + 2 + text_len (bytes_text k) = bytes-most (codes "key") k in
    let modified : member_len (codes "mod_revision") (nat_field r) ≤ 14 + 4 + d = number-most (codes "mod_revision") r d small low in
    omega (
      arith,
      object-most ((codes "key", bytes_field k) ∷ (codes "mod_revision", nat_field r) ∷ []) (24 + d + text_len (bytes_text k))
          (omega (arith, key, modified)),
    )

pub version-put : (v : Version) (kv : KvRef) → Some (kv_view kv) ≡ key_value v → version_len v ≡ text_len (key_value_text (kv_view kv))
version-put v kv e = ap (λ o. text_len (version_text v o)) (sym e)

pub version-gone : (v : Version) → None ≡ key_value v → version_len v ≡ text_len (tombstone_text v.key v.rev.main)
version-gone v e = ap (λ o. text_len (version_text v o)) (sym e)

previous-most : (o : Option KvRef) → member_len (codes "prev_kv") (option_map key_value_text (option_map kv_view o)) ≤ 10 + held_len o
unfolding escape_byte
previous-most None = omega arith
previous-most (Some kv) = omega arith

type-most : (b : Body) → member_len (codes "type") (event_type b) ≤ 16
unfolding escape_byte
type-most (Put create version lease value) = omega arith
type-most Gone = omega arith

pub event-most : (e : Event) → event_len e ≤ 34 + version_len e.version.now + held_len e.previous
unfolding event_text escape_byte
event-most e =
    let kv : member_len (codes "kv") (Some (version_text e.version.now (key_value e.version.now))) ≡ 6 + version_len e.version.now = refl in
    omega (
      arith,
      object-most ((codes "kv", Some (version_text e.version.now (key_value e.version.now)))
          ∷ (codes "prev_kv", option_map key_value_text (option_map kv_view e.previous)) ∷ (codes "type", event_type e.version.now.body) ∷ [])
          (31 + version_len e.version.now + held_len e.previous) (omega (arith, kv, previous-most e.previous, type-most e.version.now.body)),
    )

-- ---- refusals

plain-len : (t : List ℕ) → ArePlain t → text_len (text_of t) ≡ length t + 2
plain-len t h = omega (arith, length-append (escape t) (34 ∷ []), ap length (plain-escape t h))

pub refusal-most : (status code : ℕ) (t : List ℕ) → code < 2 ^ 16 → ArePlain t → text_len (fault_text (fault status code t)) ≤ 2 * length t + 64
unfolding fault_text escape_byte
refusal-most status code t small plain =
    let number : member_len (codes "code") (Some (Data.number (Num.unsigned code))) ≡ 8 + length (decimal code) = refl in
    let error : member_len (codes "error") (Some (text_of t)) ≡ 9 + text_len (text_of t) = refl in
    let message : member_len (codes "message") (Some (text_of t)) ≡ 11 + text_len (text_of t) = refl in
    omega (
      arith,
      object-most ((codes "code", Some (Data.number (Num.unsigned code))) ∷ (codes "error", Some (text_of t))
          ∷ (codes "message", Some (text_of t)) ∷ []) (36 + 2 * length t)
          (omega (arith, number, error, message, plain-len t plain, length-decimal-le 5 code (omega arith) (omega arith) (omega arith))),
    )

-- ---- leases in a list

pub lease-item-most : (z : ℤ) → FitsSigned w64 z → lease_len z ≤ 32
unfolding lease_text escape_byte
lease-item-most z h =
    let most : member_len (codes "ID") (int_field z) ≤ 4 + 24 = signed-most (codes "ID") z h in
    omega (arith, object-most ((codes "ID", int_field z) ∷ []) 27 (omega (arith, most)))

-- What clap found in the words of `replay` is what the words ask for.
use Rattle.std.proofs.Common.{◌≡◌, List, [], ◌∷◌, length, drop, Bool, true, false, Result, Ok, Err, refl, sym, ◌∙◌, ap, subst, codes, IfOk, IfErr, inl, inr, true≢false}
use Rattle.std.proofs.lemmas.List.{nil_from_length}
use Rattle.std.specs.List.{list_any}
use Rattle.clap.specs.Faults.{fault_of, is_simple_and_free}
use Rattle.clap.specs.Kinds.{HasKind, Kinds}
use Rattle.clap.specs.Matches.{found_of, one_text}
use Rattle.clap.specs.Simple.{App, HasMatchesOf, is_simple, matches_of}
use Rattle.clap.specs.Values.{kind_of}
use Rattle.clap.specs.Walk.{Row, Text, first_of, one_of, rows_of}
use Rattle.clap.specs.declared.error.Error.{Error}
use Rattle.clap.specs.declared.error.kind.ErrorKind.TheVariants as kind
use Rattle.clap.specs.declared.parser.matches.ArgMatches.{ArgMatches}
use Rattle.clap.specs.declared.parser.matches.Found.{Found}
use Rattle.clap.proofs.OnLiterals.{clap_on_literals}
use Rattle.clap.proofs.WalkLemmas.{first_value-rows, one_text-rows}
use Rattle.kv_model.specs.declared.ids.Ids.{Ids}
use Rattle.command_words.proofs.Options.{no_kind}
use Rattle.command_words.specs.Arguments.{AreFound, AreGiven, AreInRange, AsksToReplay, IsNumber, asks_replay, is_end_of_options, replaying}
use Rattle.commands.specs.declared.fault.Fault.{Fault}
use Rattle.commands.specs.declared.fault.Fault.TheVariants as fault

is_simple_replaying : is_simple replaying ≡ true
unfolding clap_on_literals replaying
is_simple_replaying = refl

is_free_replaying : is_simple_and_free replaying ≡ true
unfolding clap_on_literals replaying
is_free_replaying = refl

-- ---- what is found, and what stands among the words

given_by_rows : (f : Found) (rows : List Row) (ids : Ids) → rows_of f ≡ rows → AreFound f ids → AreGiven (λ name. one_of name rows) ids
given_by_rows f rows ids e g = record {
  cluster = subst (λ t. IsNumber t 1 ids.cluster) (read (codes "cluster-id")) g.cluster;
  member = subst (λ t. IsNumber t 1 ids.member) (read (codes "member-id")) g.member;
}
  where
    read : (name : Text) → one_text f name ≡ one_of name rows
    read name = one_text-rows f name ∙ ap (one_of name) e

found_by_rows : (f : Found) (rows : List Row) (ids : Ids) → rows_of f ≡ rows → AreGiven (λ name. one_of name rows) ids → AreFound f ids
found_by_rows f rows ids e g = record {
  cluster = subst (λ t. IsNumber t 1 ids.cluster) (read (codes "cluster-id")) g.cluster;
  member = subst (λ t. IsNumber t 1 ids.member) (read (codes "member-id")) g.member;
}
  where
    read : (name : Text) → one_of name rows ≡ one_text f name
    read name = sym (one_text-rows f name ∙ ap (one_of name) e)

-- ---- words of which clap made matches; those behind the program's name are `rest`

rows_are : (words rest : List Text) (a : App) (m : ArgMatches) → rest ≡ drop 1 words → a ≡ replaying → HasMatchesOf a rest m
    → rows_of (found_of m) ≡ matches_of replaying (drop 1 words)
rows_are words rest a m same is has =
    let matched : HasMatchesOf replaying (drop 1 words) m = subst (λ (x : App). HasMatchesOf x (drop 1 words) m) is
    (subst (λ ws. HasMatchesOf a ws m) same has) in
    (matched is_simple_replaying).0

faults_are : (words rest : List Text) (a : App) → rest ≡ drop 1 words → a ≡ replaying → fault_of a rest ≡ fault_of replaying (drop 1 words)
faults_are words rest a same is = ap (fault_of a) same ∙ ap (λ (x : App). fault_of x (drop 1 words)) is

is_free_too : (a : App) → a ≡ replaying → is_simple_and_free a ≡ true
is_free_too a is = ap is_simple_and_free is ∙ is_free_replaying

-- where none ends the options
pub asks_to_replay : (words rest : List Text) (r : Result Ids Fault) (a : App) (m : ArgMatches) → rest ≡ drop 1 words → a ≡ replaying
    → HasMatchesOf a rest m → (is_simple_and_free a ≡ true → fault_of a rest ≡ []) → list_any is_end_of_options rest ≡ false
    → IfOk r AreInRange → IfOk r (AreFound (found_of m)) → IfOk r (AsksToReplay words)
asks_to_replay words rest (Err e) a m same is has free options range found = tt
asks_to_replay words rest (Ok s) a m same is has free options range found = record {
  options = subst (λ ws. list_any is_end_of_options ws ≡ false) same options;
  taken = sym (faults_are words rest a same is) ∙ free (is_free_too a is);
  given = given_by_rows (found_of m) (matches_of replaying (drop 1 words)) s (rows_are words rest a m same is has) found;
  range = range;
}

-- they ask for nothing where nothing is found that is in range
pub asks_for_nothing : (words rest : List Text) (r : Result Ids Fault) (a : App) (m : ArgMatches) → rest ≡ drop 1 words → a ≡ replaying
    → HasMatchesOf a rest m → IfErr r (λ _. (s : Ids) → AreFound (found_of m) s → AreInRange s → ⊥)
    → IfErr r (λ f. (s : Ids) → AsksToReplay words s → f ≡ fault.Memory)
asks_for_nothing words rest (Ok s) a m same is has other = tt
asks_for_nothing words rest (Err e) a m same is has other = λ s asks.
    absurd (other s (found_by_rows (found_of m) (matches_of replaying (drop 1 words)) s (rows_are words rest a m same is has) asks.given) asks.range)

-- ---- words of which it made none

pub finds_no_memory : (words rest : List Text) (e : Error) (f : Fault) (a : App) → rest ≡ drop 1 words → a ≡ replaying
    → (is_simple_and_free a ≡ true → HasKind (fault_of a rest) e) → (kind_of e ≡ kind.OutOfMemory → f ≡ fault.Memory)
    → (s : Ids) → AsksToReplay words s → f ≡ fault.Memory
finds_no_memory words rest e f a same is fails memory s asks =
    memory (no_kind (fault_of a rest) e (faults_are words rest a same is ∙ asks.taken) (fails (is_free_too a is)))

-- no words ask for a replay
pub nothing_asks : (words : List Text) → length words ≡ 0 → asks_replay words ≡ true → ⊥
nothing_asks words none asks = true≢false (sym asks ∙ ap asks_replay (nil_from_length words none))

-- What clap found in the words of `serve` is what the words ask for.
use Rattle.std.proofs.Common.{◌≡◌, List, [], ◌∷◌, length, drop, Bool, true, false, Result, Ok, Err, refl, sym, ◌∙◌, ap, subst, codes, IfOk, IfErr, inl, inr, true≢false}
use Rattle.std.proofs.lemmas.List.{nil_from_length}
use Rattle.std.specs.List.{list_any}
use Rattle.clap.specs.Faults.{fault_of, is_simple_and_free}
use Rattle.clap.specs.Kinds.{HasKind, Kinds}
use Rattle.clap.specs.Matches.{found_of, one_text}
use Rattle.clap.specs.Simple.{App, HasMatchesOf, is_simple, matches_of}
use Rattle.clap.specs.Values.{kind_of}
use Rattle.clap.specs.Walk.{Row, Text, first_of, one_of, rows_of}
use Rattle.clap.specs.declared.error.Error.{Error}
use Rattle.clap.specs.declared.error.kind.ErrorKind.TheVariants as kind
use Rattle.clap.specs.declared.parser.matches.ArgMatches.{ArgMatches}
use Rattle.clap.specs.declared.parser.matches.Found.{Found}
use Rattle.clap.proofs.OnLiterals.{clap_on_literals}
use Rattle.clap.proofs.WalkLemmas.{first_value-rows, one_text-rows}
use Rattle.command_words.specs.declared.words.Serve.{Serve}
use Rattle.command_words.specs.Arguments.{AsksToServe, IsFound, IsGiven, IsInRange, IsNumber, is_end_of_options, is_set, serving}
use Rattle.commands.specs.declared.fault.Fault.{Fault}
use Rattle.commands.specs.declared.fault.Fault.TheVariants as fault

is_simple_serving : is_simple serving ≡ true
unfolding clap_on_literals serving
is_simple_serving = refl

is_free_serving : is_simple_and_free serving ≡ true
unfolding clap_on_literals serving
is_free_serving = refl

-- ---- what is found, and what stands among the words

given_by_rows : (f : Found) (rows : List Row) (s : Serve) → rows_of f ≡ rows → IsFound f s
    → IsGiven (λ name. first_of name rows) (λ name. one_of name rows) s
given_by_rows f rows s e g = record {
  listen = sym (first_value-rows f (codes "listen") ∙ ap (first_of (codes "listen")) e) ∙ g.listen;
  workers = subst (λ t. IsNumber t 8 s.workers) (read (codes "workers")) g.workers;
  connections = subst (λ t. IsNumber t 0 s.connections) (read (codes "connections")) g.connections;
  cluster = subst (λ t. IsNumber t 1 s.cluster) (read (codes "cluster-id")) g.cluster;
  member = subst (λ t. IsNumber t 1 s.member) (read (codes "member-id")) g.member;
  control = g.control ∙ ap is_set (first_value-rows f (codes "control") ∙ ap (first_of (codes "control")) e);
  recording = sym (first_value-rows f (codes "record") ∙ ap (first_of (codes "record")) e) ∙ g.recording;
  from = sym (first_value-rows f (codes "from") ∙ ap (first_of (codes "from")) e) ∙ g.from;
}
  where
    read : (name : Text) → one_text f name ≡ one_of name rows
    read name = one_text-rows f name ∙ ap (one_of name) e

found_by_rows : (f : Found) (rows : List Row) (s : Serve) → rows_of f ≡ rows
    → IsGiven (λ name. first_of name rows) (λ name. one_of name rows) s → IsFound f s
found_by_rows f rows s e g = record {
  listen = first_value-rows f (codes "listen") ∙ ap (first_of (codes "listen")) e ∙ g.listen;
  workers = subst (λ t. IsNumber t 8 s.workers) (read (codes "workers")) g.workers;
  connections = subst (λ t. IsNumber t 0 s.connections) (read (codes "connections")) g.connections;
  cluster = subst (λ t. IsNumber t 1 s.cluster) (read (codes "cluster-id")) g.cluster;
  member = subst (λ t. IsNumber t 1 s.member) (read (codes "member-id")) g.member;
  control = g.control ∙ ap is_set (sym (first_value-rows f (codes "control") ∙ ap (first_of (codes "control")) e));
  recording = first_value-rows f (codes "record") ∙ ap (first_of (codes "record")) e ∙ g.recording;
  from = first_value-rows f (codes "from") ∙ ap (first_of (codes "from")) e ∙ g.from;
}
  where
    read : (name : Text) → one_of name rows ≡ one_text f name
    read name = sym (one_text-rows f name ∙ ap (one_of name) e)

-- ---- words of which clap made matches; those behind the program's name are `rest`

rows_are : (words rest : List Text) (a : App) (m : ArgMatches) → rest ≡ drop 1 words → a ≡ serving → HasMatchesOf a rest m
    → rows_of (found_of m) ≡ matches_of serving (drop 1 words)
rows_are words rest a m same is has =
    let matched : HasMatchesOf serving (drop 1 words) m = subst (λ (x : App). HasMatchesOf x (drop 1 words) m) is
    (subst (λ ws. HasMatchesOf a ws m) same has) in
    (matched is_simple_serving).0

faults_are : (words rest : List Text) (a : App) → rest ≡ drop 1 words → a ≡ serving → fault_of a rest ≡ fault_of serving (drop 1 words)
faults_are words rest a same is = ap (fault_of a) same ∙ ap (λ (x : App). fault_of x (drop 1 words)) is

is_free_too : (a : App) → a ≡ serving → is_simple_and_free a ≡ true
is_free_too a is = ap is_simple_and_free is ∙ is_free_serving

-- where none ends the options
pub asks_to_serve : (words rest : List Text) (r : Result Serve Fault) (a : App) (m : ArgMatches) → rest ≡ drop 1 words → a ≡ serving
    → HasMatchesOf a rest m → (is_simple_and_free a ≡ true → fault_of a rest ≡ []) → list_any is_end_of_options rest ≡ false
    → IfOk r IsInRange → IfOk r (IsFound (found_of m)) → IfOk r (AsksToServe words)
asks_to_serve words rest (Err e) a m same is has free options range found = tt
asks_to_serve words rest (Ok s) a m same is has free options range found = record {
  options = subst (λ ws. list_any is_end_of_options ws ≡ false) same options;
  taken = sym (faults_are words rest a same is) ∙ free (is_free_too a is);
  given = given_by_rows (found_of m) (matches_of serving (drop 1 words)) s (rows_are words rest a m same is has) found;
  range = range;
}

-- they ask for nothing where nothing is found that is in range
pub asks_for_nothing : (words rest : List Text) (r : Result Serve Fault) (a : App) (m : ArgMatches) → rest ≡ drop 1 words → a ≡ serving
    → HasMatchesOf a rest m → IfErr r (λ _. (s : Serve) → IsFound (found_of m) s → IsInRange s → ⊥)
    → IfErr r (λ f. (s : Serve) → AsksToServe words s → f ≡ fault.Memory)
asks_for_nothing words rest (Ok s) a m same is has other = tt
asks_for_nothing words rest (Err e) a m same is has other = λ s asks.
    absurd (other s (found_by_rows (found_of m) (matches_of serving (drop 1 words)) s (rows_are words rest a m same is has) asks.given) asks.range)

-- ---- words of which it made none

pub no_kind : (ks : Kinds) (e : Error) → ks ≡ [] → HasKind ks e → kind_of e ≡ kind.OutOfMemory
no_kind [] e none (inl memory) = memory
no_kind [] e none (inr other) = absurd other
no_kind (k ∷ ks) e none has = cc

pub finds_no_memory : (words rest : List Text) (e : Error) (f : Fault) (a : App) → rest ≡ drop 1 words → a ≡ serving
    → (is_simple_and_free a ≡ true → HasKind (fault_of a rest) e) → (kind_of e ≡ kind.OutOfMemory → f ≡ fault.Memory)
    → (s : Serve) → AsksToServe words s → f ≡ fault.Memory
finds_no_memory words rest e f a same is fails memory s asks =
    memory (no_kind (fault_of a rest) e (faults_are words rest a same is ∙ asks.taken) (fails (is_free_too a is)))

abbrev has_some : Kinds → Bool
has_some [] = false
has_some (k ∷ ks) = true

no_word_asks : (s : Serve) → AsksToServe [] s → ⊥
unfolding clap_on_literals serving
no_word_asks s asks = true≢false (ap has_some asks.taken)

pub nothing_asks : (words : List Text) → length words ≡ 0 → (s : Serve) → AsksToServe words s → ⊥
nothing_asks words none s asks = no_word_asks s (subst (λ ws. AsksToServe ws s) (nil_from_length words none) asks)

-- The words of a command line.
use Rattle.std.specs.Prelude.{◌≡◌, ◌⊎◌, ℕ, ◌<◌, ◌≤◌, ◌^◌, List, [], ◌∷◌, drop, Bool, true, false, nat_eq, codes}
use Rattle.std.specs.Prelude.{Option, None, Some, MatchOption, option_map}
use Rattle.std.specs.Cmp.Lexicographic.{pointwise}
use Rattle.std.specs.List.{list_any}
use Rattle.std.specs.Str.Parse.{IsNumeral, digits_value, without_leading_plus}
use Rattle.clap.specs.Faults.{fault_of}
use Rattle.clap.specs.Simple.{App, matches_of, new_app, new_rule, on_top, with_rule, with_subcommand}
use Rattle.clap.specs.Walk.{Row, Rule, first_of, one_of}
use Rattle.clap.specs.Matches.{first_value, one_text}
use Rattle.clap.specs.declared.parser.matches.Found.{Found}
use Rattle.clap.specs.declared.builder.action.ArgAction.TheVariants.{SetTrue}
use Rattle.clap.specs.declared.builder.value_parser.ValueParser.TheVariants as value
use Rattle.kv_model.specs.declared.ids.Ids.{Ids}
use Rattle.command_words.specs.declared.words.Args.{Args}
use Rattle.command_words.specs.declared.words.Args.TheVariants as args
use Rattle.command_words.specs.declared.words.Serve.{Serve}
use Rattle.command_words.specs.declared.filters.Filter.{Filter}
use Rattle.command_words.specs.declared.filters.Filter.TheVariants as filter

-- the word of a command
abbrev pub word_of : Filter → List ℕ
word_of filter.Replay = codes "replay"
word_of filter.Check = codes "check"

-- the program's name, and the word of a command alone
abbrev pub IsCommand : List (List ℕ) → Filter → Type 0
IsCommand words command = (name : List ℕ) × (words ≡ name ∷ word_of command ∷ [])

-- no command is asked for
abbrev pub IsNoCommand : List (List ℕ) → Type 0
IsNoCommand words = (command : Filter) → IsCommand words command → ⊥

-- a subcommand is required
abbrev pub requiring : App → App
requiring = on_top (λ s. record s { subcommand_required = true })

abbrev pub with_command : Filter → App → App
with_command command a = with_subcommand a (new_app (word_of command)).top

-- what clap reads: its subcommands are the commands
unfoldable pub program : App
program = with_command filter.Check (with_command filter.Replay (requiring (new_app (codes "etcd_one"))))

-- ---- serve

-- the second word is the command's
abbrev pub asks_serve : List (List ℕ) → Bool
asks_serve (name ∷ word ∷ rest) = pointwise nat_eq word (codes "serve")
asks_serve _ = false

-- it would end the options, and what stands behind it would be taken for a name
abbrev pub is_end_of_options : List ℕ → Bool
is_end_of_options word = pointwise nat_eq word (codes "--")

-- an option, and one that has a number of 64 bits
abbrev pub option_rule : List ℕ → Rule
option_rule name = record (new_rule name) { long = Some name }

abbrev pub number_rule : List ℕ → Rule
number_rule name = record (option_rule name) { parser = Some (value.Unsigned 0 18446744073709551615) }

-- one that stands alone
abbrev pub switch_rule : List ℕ → Rule
switch_rule name = record (option_rule name) { action = Some SetTrue }

abbrev pub address_rule : Rule
address_rule = record (option_rule (codes "listen")) { required = true }

-- what clap reads: the options of a server
unfoldable pub serving : App
serving = with_rule (with_rule (with_rule (with_rule (with_rule (with_rule (with_rule (with_rule (new_app (codes "serve")) address_rule)
    (number_rule (codes "workers"))) (number_rule (codes "connections"))) (number_rule (codes "cluster-id")))
    (number_rule (codes "member-id"))) (switch_rule (codes "control"))) (option_rule (codes "record"))) (option_rule (codes "from"))

-- what clap finds for them in the words of a command line
abbrev pub options_in : List (List ℕ) → List Row
options_in words = matches_of serving (drop 1 words)

-- the number that a text gives by its decimal digits, before which a plus may stand, or this one where there is no text
abbrev pub IsNumber : Option (List ℕ) → ℕ → ℕ → Type 0
IsNumber text otherwise n = MatchOption text (n ≡ otherwise)
    (λ t. IsNumeral 10 (without_leading_plus t) × (n ≡ digits_value 10 (without_leading_plus t)))

-- an option that stands alone was given
abbrev pub is_set : Option (List ℕ) → Bool
is_set None = false
is_set (Some text) = pointwise nat_eq text (codes "true")

-- each option of a server is what stands for its name, or what it is otherwise; an address and a path as they are
-- written, and a number as it is read
pub record IsGiven (written read : List ℕ → Option (List ℕ)) (s : Serve) : Type 0 where
  pub listen : written (codes "listen") ≡ Some s.listen.now
  pub workers : IsNumber (read (codes "workers")) 8 s.workers
  pub connections : IsNumber (read (codes "connections")) 0 s.connections
  pub cluster : IsNumber (read (codes "cluster-id")) 1 s.cluster
  pub member : IsNumber (read (codes "member-id")) 1 s.member
  pub control : s.control ≡ is_set (written (codes "control"))
  pub recording : written (codes "record") ≡ option_map (λ path. path.now) s.recording
  pub from : written (codes "from") ≡ option_map (λ path. path.now) s.from

-- by what clap found
abbrev pub IsFound : Found → Serve → Type 0
IsFound f = IsGiven (first_value f) (one_text f)

-- the numbers of a server are within their ranges
pub record IsInRange (s : Serve) : Type 0 where
  pub workers : (2 ≤ s.workers) × (s.workers ≤ 32)
  pub connections : s.connections < 2 ^ 63
  pub cluster : (1 ≤ s.cluster) × (s.cluster < 2 ^ 63)
  pub member : (1 ≤ s.member) × (s.member < 2 ^ 63)

-- behind the word of the command stand the options, no word ends them, and clap finds no fault in them
pub record AsksToServe (words : List (List ℕ)) (s : Serve) : Type 0 where
  pub options : list_any is_end_of_options (drop 1 words) ≡ false
  pub taken : fault_of serving (drop 1 words) ≡ []
  pub given : IsGiven (λ name. first_of name (options_in words)) (λ name. one_of name (options_in words)) s
  pub range : IsInRange s

-- ---- replay with options

-- the second word is the command's, and others stand behind it
abbrev pub asks_replay : List (List ℕ) → Bool
asks_replay (name ∷ word ∷ option ∷ rest) = pointwise nat_eq word (codes "replay")
asks_replay _ = false

-- what clap reads: the options of a replay
unfoldable pub replaying : App
replaying = with_rule (with_rule (new_app (codes "replay")) (number_rule (codes "cluster-id"))) (number_rule (codes "member-id"))

-- each number is what is read for its name, or 1
pub record AreGiven (read : List ℕ → Option (List ℕ)) (ids : Ids) : Type 0 where
  pub cluster : IsNumber (read (codes "cluster-id")) 1 ids.cluster
  pub member : IsNumber (read (codes "member-id")) 1 ids.member

-- by what clap found
abbrev pub AreFound : Found → Ids → Type 0
AreFound f = AreGiven (one_text f)

-- the numbers are within their ranges
pub record AreInRange (ids : Ids) : Type 0 where
  pub cluster : (1 ≤ ids.cluster) × (ids.cluster < 2 ^ 63)
  pub member : (1 ≤ ids.member) × (ids.member < 2 ^ 63)

-- behind the word of the command stand the options, no word ends them, and clap finds no fault in them
pub record AsksToReplay (words : List (List ℕ)) (ids : Ids) : Type 0 where
  pub options : list_any is_end_of_options (drop 1 words) ≡ false
  pub taken : fault_of replaying (drop 1 words) ≡ []
  pub given : AreGiven (λ name. one_of name (matches_of replaying (drop 1 words))) ids
  pub range : AreInRange ids

-- ---- the program

-- a replay is asked for, by these ids: by the word of the command alone, and then both are 1, or with options
abbrev pub AsksForReplay : List (List ℕ) → Ids → Type 0
AsksForReplay words ids = (IsCommand words filter.Replay × (ids ≡ record { cluster = 1; member = 1 }))
    ⊎ ((asks_replay words ≡ true) × AsksToReplay words ids)

-- the words ask for this
abbrev pub Asks : List (List ℕ) → Args → Type 0
Asks words (args.Replay ids) = AsksForReplay words ids
Asks words args.Check = IsCommand words filter.Check
Asks words (args.Serve s) = (asks_serve words ≡ true) × AsksToServe words s

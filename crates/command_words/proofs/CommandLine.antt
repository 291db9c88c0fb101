-- What clap makes of a command that requires one of its subcommands.
use Rattle.std.proofs.Common.{◌≡◌, inl, inr, List, [], ◌∷◌, length, map, get_or, Bool, true, false, not, ◌&&◌, Option, None, Some, option_map, cond, subst, codes, refl, sym, ap, ◌∙◌, arith, is_some, true≢false}
use Rattle.std.specs.List.{list_any}
use Rattle.std.specs.Str.{bytes_eq}
use Rattle.std.proofs.lemmas.Slice.Eq.{bytes_eq-Decides}
use Rattle.clap.specs.Kinds.{Kinds, check_kinds, or_else}
use Rattle.clap.specs.Faults.{built_fault, check_fault, defaults_fault, entered_fault, fault_of, is_simple_and_free, level_fault, settle_fault, walk_fault}
use Rattle.clap.specs.Lexer.{long_of, short_of}
use Rattle.clap.specs.Simple.{App, Shape, argument_words, built, entered, names_of}
use Rattle.clap.specs.Facts.{explicit_source}
use Rattle.clap.specs.Takes.{is_given, takes}
use Rattle.clap.specs.Walk.{Held, Names, Outcome, Row, Rule, Step, Text, Walk, after_flag, after_step, arg_by_index, bundle, done, finished, idle, long_met, arg_by_long, long_or_other, nothing_held, plain, refused, settled, short_or_plain, subcommand_met, to_positional, trailing, next, subcommand, subcommand_or_other, value, waits, walk, walk_from, walked}
use Rattle.clap.proofs.OnLiterals.{clap_on_literals}
use Rattle.std.specs.Prelude.{Box, MatchOption}
use Rattle.std.specs.Cmp.Lexicographic.{same_text}
use Rattle.std.specs.Box.{box_value}
use Rattle.clap.specs.Matches.{subcommand_name_of}
use Rattle.clap.specs.Simple.{HasMatchesOf, is_simple, subcommand_of, subcommand_rows}
use Rattle.clap.specs.declared.parser.matches.ArgMatches.{ArgMatches}
use Rattle.clap.specs.declared.parser.matches.ArgMatches.TheViews.{out-SubCommand}
use Rattle.clap.specs.declared.parser.matches.SubCommand.{SubCommand}
use Rattle.command_words.specs.declared.filters.Filter.{Filter}
use Rattle.command_words.specs.declared.filters.Filter.TheVariants as filter
use Rattle.command_words.specs.declared.words.Args.{Args}
use Rattle.command_words.specs.declared.words.Args.TheVariants as args
use Rattle.command_words.specs.declared.words.Serve.{Serve}
use Rattle.command_words.specs.Arguments.{Asks, AsksToReplay, AsksToServe, IsCommand, asks_replay, asks_serve, program, word_of}
use Rattle.kv_model.specs.declared.ids.Ids.{Ids}
use Rattle.commands.specs.declared.fault.Fault.{Fault}
use Rattle.commands.specs.declared.fault.Fault.TheVariants as fault

pub is_taken : (words : List Text) (command : Filter) → IsCommand words command → takes program words ≡ true
unfolding clap_on_literals program
is_taken words filter.Replay r = rw r.1 refl
is_taken words filter.Check r = rw r.1 refl

is_simple_program : is_simple program ≡ true
unfolding clap_on_literals program
is_simple_program = refl

-- it is then the command of that word that clap enters
pub is_entered : (words : List Text) (command : Filter) → IsCommand words command
    → option_map (λ p. p.0) (subcommand_of program words) ≡ Some (word_of command)
unfolding clap_on_literals program
is_entered words filter.Replay r = rw r.1 refl
is_entered words filter.Check r = rw r.1 refl

pub is_plain : is_simple_and_free program ≡ true
unfolding clap_on_literals program
is_plain = refl

-- ---- a word that names no subcommand enters none

abbrev names : Step → Bool
names (subcommand name) = true
names _ = false

no_flag_names : (c : List Rule) (w : Text) (h : Held) (o : Outcome) → names (after_flag c idle w h o).1 ≡ false
no_flag_names c w h done = refl
no_flag_names c w h (waits id) = refl
no_flag_names c w h plain = refl
no_flag_names c w h refused = refl

no_short_names : (c : List Rule) (w : Text) (h : Held) (o : Option Text) → names (short_or_plain c idle w o h).1 ≡ false
no_short_names c w h None = refl
no_short_names c w h (Some flags) = no_flag_names c w (bundle c flags h).0 (bundle c flags h).1

no_long_names : (c : List Rule) (w : Text) (h : Held) (o : Option (Text × Option Text)) → names (long_or_other c idle w o h).1 ≡ false
no_long_names c w h None = no_short_names c w h (short_of w)
no_long_names c w h (Some p) = no_flag_names c w (long_met c (arg_by_long c p.0) p.1 h).0 (long_met c (arg_by_long c p.0) p.1 h).1

no_other_names : (c : List Rule) (w : Text) (h : Held) (is_end : Bool)
    → names (cond is_end (h, trailing 1) (long_or_other c idle w (long_of w) h)).1 ≡ false
no_other_names c w h true = refl
no_other_names c w h false = no_long_names c w h (long_of w)

no_positional_enters : (c : List Rule) (a : Option Rule) (w : Text) (k : Walk) (h : Held) → k.stopped ≡ None → (to_positional c a w k h).stopped ≡ None
no_positional_enters c None w k h e = e
no_positional_enters c (Some a) w k h e = refl

no_step_enters : (c : List Rule) (w : Text) (k : Walk) (h : Held) (s : Step) → names s ≡ false → k.stopped ≡ None → (after_step c w k h s).stopped ≡ None
no_step_enters c w k h (next waiting) e n = n
no_step_enters c w k h (trailing position) e n = n
no_step_enters c w k h (subcommand name) e n = absurd (true≢false e)
no_step_enters c w k h value e n = no_positional_enters c (arg_by_index c k.position) w k h n

other_enters_none : (c : List Rule) (w : Text) (met : Option Text) → met ≡ None
    → (after_step c w (walk_from nothing_held) (subcommand_or_other c met idle 1 w nothing_held).0 (subcommand_or_other c met idle 1 w nothing_held).1).stopped ≡ None
other_enters_none c w None e = no_step_enters c w (walk_from nothing_held) _ _ (no_other_names c w nothing_held (bytes_eq w (45 ∷ 45 ∷ []))) refl
other_enters_none c w (Some name) e = cc

-- the walk over one word ends with no subcommand met
enters_none : (c : List Rule) (ns : Names) (w : Text) → subcommand_met ns idle w ≡ None → (walk c ns nothing_held (w ∷ [])).stopped ≡ None
unfolding walked
enters_none c ns w e = other_enters_none c w (subcommand_met ns idle w) e

-- ---- so such a word has a fault

last : (xs ys : Kinds) → or_else xs ys ≡ [] → ys ≡ []
last [] ys e = e
last (x ∷ xs) ys e = cc

abbrev is_some_kind : Kinds → Bool
is_some_kind [] = false
is_some_kind (k ∷ ks) = true

missing : (wants_help wants_argument : Bool) → check_kinds wants_help true wants_argument ≡ [] → ⊥
missing true b e = true≢false (ap is_some_kind e)
missing false b e = true≢false (ap is_some_kind e)

missing_where : (s : Shape) (rows : List Row) → s.subcommand_required ≡ true → check_fault s rows false ≡ [] → ⊥
missing_where s rows e none =
    let wants_help = s.arg_required_else_help && not (list_any (λ r. explicit_source r.source) rows) in
    let wants_argument = not (s.subcommand_negates_reqs && false) && list_any (λ a. a.required && not (is_given a.id rows)) s.rules in
    missing wants_help wants_argument (rw e at none)

level_fails : (s : Shape) (ns : Names) (words : List Text) (below : Kinds) → s.subcommand_required ≡ true
    → level_fault s ns nothing_held words false below ≡ [] → ⊥
level_fails s ns words below e none =
    let end = (walk s.rules ns nothing_held words).held in
    let check = check_fault s (finished s.rules end) false in
    let defaults = defaults_fault (settled s.rules end).rows s.rules in
    let settle = settle_fault s.rules s.args_override_self end in
    let after_below = last below (or_else settle (or_else defaults check)) (last (walk_fault s ns (walk_from nothing_held) words) (or_else below (or_else settle (or_else defaults check))) none) in
    missing_where s (finished s.rules end) e (last defaults check (last settle (or_else defaults check) after_below))

built_fails : (a : App) (words : List Text) → a.top.subcommand_required ≡ true → (walk a.top.rules (names_of a) nothing_held words).stopped ≡ None
    → built_fault a nothing_held words ≡ [] → ⊥
built_fails a words e stop none = level_fails a.top (names_of a) words (entered_fault a None) e
    (subst (λ s. level_fault a.top (names_of a) nothing_held words (is_some (entered a s)) (entered_fault a s) ≡ []) stop none)

-- ---- the commands

names_are : names_of (built program) ≡ (codes "replay", []) ∷ (codes "check", []) ∷ (codes "help", []) ∷ []
unfolding program
names_are = refl

requires_one : (built program).top.subcommand_required ≡ true
unfolding program
requires_one = refl

words_are : (name w : Text) → argument_words program (name ∷ w ∷ []) ≡ w ∷ []
unfolding program
words_are name w = refl

meets_none : (x y z w : Text) → bytes_eq x w ≡ false → bytes_eq y w ≡ false → bytes_eq z w ≡ false
    → subcommand_met ((x, []) ∷ (y, []) ∷ (z, []) ∷ []) idle w ≡ None
meets_none x y z w a b c = rw (a, b, c) refl

help_fails : (name : Text) → fault_of program (name ∷ codes "help" ∷ []) ≡ [] → ⊥
unfolding clap_on_literals program
help_fails name e = true≢false (ap is_some_kind e)

other_fails : (name w : Text) → bytes_eq (codes "replay") w ≡ false → bytes_eq (codes "check") w ≡ false → bytes_eq (codes "help") w ≡ false
    → fault_of program (name ∷ w ∷ []) ≡ [] → ⊥
other_fails name w r c h none = built_fails (built program) (w ∷ []) requires_one
    (enters_none (built program).top.rules (names_of (built program)) w
    (ap (λ (ns : Names). subcommand_met ns idle w) names_are ∙ meets_none (codes "replay") (codes "check") (codes "help") w r c h))
    (sym (ap (built_fault (built program) nothing_held) (words_are name w)) ∙ none)

-- the word of some command
abbrev IsWord : Text → Type 0
IsWord w = (command : Filter) × (word_of command ≡ w)

one_word : (name w : Text) (is_replay is_check is_help : Bool) → bytes_eq (codes "replay") w ≡ is_replay → bytes_eq (codes "check") w ≡ is_check
    → bytes_eq (codes "help") w ≡ is_help → fault_of program (name ∷ w ∷ []) ≡ [] → IsWord w
one_word name w true is_check is_help r c h none = (filter.Replay, (bytes_eq-Decides (codes "replay") w).0 r)
one_word name w false true is_help r c h none = (filter.Check, (bytes_eq-Decides (codes "check") w).0 c)
one_word name w false false true r c h none =
    let is_help : codes "help" ≡ w = (bytes_eq-Decides (codes "help") w).0 h in
    absurd (help_fails name (subst (λ t. fault_of program (name ∷ t ∷ []) ≡ []) (sym is_help) none))
one_word name w false false false r c h none = absurd (other_fails name w r c h none)

-- two words that clap takes are those of a command
pub is_command : (words : List Text) → length words ≡ 2 → fault_of program words ≡ [] → (command : Filter) × IsCommand words command
is_command [] two none = absurd (omega (arith, two))
is_command (name ∷ []) two none = absurd (omega (arith, two))
is_command (name ∷ w ∷ []) two none =
    let (command, is) = one_word name w _ _ _ refl refl refl none in
    (command, (name, ap (λ t. name ∷ t ∷ []) (sym is)))
is_command (name ∷ w ∷ x ∷ more) two none = absurd (omega (arith, two))

-- ---- words that are read

-- a word that some command has
pub some_named : (r : Option Filter) (P : Type 0) (w : Text) → MatchOption r P (λ command. w ≡ word_of command) → is_some r ≡ true
    → (command : Filter) × (w ≡ word_of command)
some_named None P w is e = cc
some_named (Some command) P w is e = (command, is)

-- no other command has it
pub one_command : (a b : Filter) → word_of a ≡ word_of b → a ≡ b
one_command filter.Replay filter.Replay e = refl
one_command filter.Replay filter.Check e = absurd (let bad : 114 ≡ 99 = ap (λ w. get_or w 0 0) e in omega (arith, bad))
one_command filter.Check filter.Replay e = absurd (let bad : 99 ≡ 114 = ap (λ w. get_or w 0 0) e in omega (arith, bad))
one_command filter.Check filter.Check e = refl

-- the word of a command is read as that
pub is_named : (r : Option Filter) (w : Text) (command : Filter) → MatchOption r ((a : Filter) → w ≡ word_of a → ⊥) (λ a. w ≡ word_of a)
    → w ≡ word_of command → r ≡ Some command
is_named None w command is e = absurd (is command e)
is_named (Some a) w command is e = ap (λ b. Some b) (one_command a command (sym is ∙ e))

name_of_rows : {Z : Type 0} (o : Option (Box SubCommand Z)) → option_map (λ p. p.0) (subcommand_rows o)
    ≡ option_map (λ b. (out-SubCommand (box_value b)).name.now) o
name_of_rows None = refl
name_of_rows (Some b) = refl

-- the words of a command have clap name it
pub is_met : (words : List Text) (command : Filter) (m : ArgMatches) → IsCommand words command → HasMatchesOf program words m
    → subcommand_name_of m ≡ Some (word_of command)
is_met words command m is has = sym (name_of_rows _) ∙ ap (option_map (λ p. p.0)) (has is_simple_program).1 ∙ is_entered words command is

-- two words, of which the second is that of a command
pub are_command : {A : Type 0} (text : A → Text) (words : List A) (other : A) (command : Filter) → length words ≡ 2
    → text (get_or words 1 other) ≡ word_of command → IsCommand (map text words) command
are_command text [] other command two same = absurd (omega (arith, two))
are_command text (x ∷ []) other command two same = absurd (omega (arith, two))
are_command text (x ∷ y ∷ []) other command two same = (text x, ap (λ t. text x ∷ t ∷ []) same)
are_command text (x ∷ y ∷ z ∷ more) other command two same = absurd (omega (arith, two))

-- ---- what clap answers

-- two words that clap takes are a command's, and it names that
pub is_answered : (words : List Text) (a : App) (m : ArgMatches) → a ≡ program → length words ≡ 2 → HasMatchesOf a words m
    → (is_simple_and_free a ≡ true → fault_of a words ≡ [])
    → (command : Filter) × IsCommand words command × (subcommand_name_of m ≡ Some (word_of command))
is_answered words a m same two has free =
    let none : fault_of program words ≡ [] = sym (ap (λ (x : App). fault_of x words) same) ∙ free (ap is_simple_and_free same ∙ is_plain) in
    let (command, is) = is_command words two none in
    (command, is, is_met words command m is (subst (λ (x : App). HasMatchesOf x words m) same has))

-- ---- what any words ask for

-- those of a server ask for no replay
serve_or_replay : (words : List Text) → asks_serve words ≡ true → asks_replay words ≡ true → ⊥
serve_or_replay [] s r = true≢false (sym r)
serve_or_replay (name ∷ []) s r = true≢false (sym r)
serve_or_replay (name ∷ word ∷ []) s r = true≢false (sym r)
serve_or_replay (name ∷ word ∷ option ∷ rest) s r =
    let bad : 114 ≡ 115 = ap (λ w. get_or w 0 0) (sym (same_text word (codes "replay") (sym r)) ∙ same_text word (codes "serve") (sym s)) in
    omega (arith, bad)

no_filter_serves : (words : List Text) (command : Filter) → IsCommand words command → asks_serve words ≡ true → ⊥
no_filter_serves words filter.Replay is s = true≢false (sym s ∙ ap asks_serve is.1)
no_filter_serves words filter.Check is s = true≢false (sym s ∙ ap asks_serve is.1)

no_filter_replays : (words : List Text) (command : Filter) → IsCommand words command → asks_replay words ≡ true → ⊥
no_filter_replays words filter.Replay is r = true≢false (sym r ∙ ap asks_replay is.1)
no_filter_replays words filter.Check is r = true≢false (sym r ∙ ap asks_replay is.1)

-- where all that asks for a server fails by want of memory, so does all that such words ask for
pub serve_fails_so : (words : List Text) (f : Fault) → ((s : Serve) → AsksToServe words s → f ≡ fault.Memory)
    → asks_serve words ≡ true → (a : Args) → Asks words a → f ≡ fault.Memory
serve_fails_so words f memory s (args.Replay ids) (inl (is, ones)) = absurd (no_filter_serves words filter.Replay is s)
serve_fails_so words f memory s (args.Replay ids) (inr (r, asks)) = absurd (serve_or_replay words s r)
serve_fails_so words f memory s args.Check is = absurd (no_filter_serves words filter.Check is s)
serve_fails_so words f memory s (args.Serve serve) asks = memory serve asks.1

-- and of a replay with options
pub replay_fails_so : (words : List Text) (f : Fault) → ((ids : Ids) → AsksToReplay words ids → f ≡ fault.Memory)
    → asks_serve words ≡ false → asks_replay words ≡ true → (a : Args) → Asks words a → f ≡ fault.Memory
replay_fails_so words f memory s r (args.Replay ids) (inl (is, ones)) = absurd (no_filter_replays words filter.Replay is r)
replay_fails_so words f memory s r (args.Replay ids) (inr (same, asks)) = memory ids asks
replay_fails_so words f memory s r args.Check is = absurd (no_filter_replays words filter.Check is r)
replay_fails_so words f memory s r (args.Serve serve) asks = absurd (true≢false (sym asks.0 ∙ s))

-- and of the commands that have no options
pub fails_so : (words : List Text) (f : Fault) → ((command : Filter) → IsCommand words command → f ≡ fault.Memory)
    → asks_serve words ≡ false → asks_replay words ≡ false → (a : Args) → Asks words a → f ≡ fault.Memory
fails_so words f memory s r (args.Replay ids) (inl (is, ones)) = memory filter.Replay is
fails_so words f memory s r (args.Replay ids) (inr (same, asks)) = absurd (true≢false (sym same ∙ r))
fails_so words f memory s r args.Check asks = memory filter.Check asks
fails_so words f memory s r (args.Serve serve) asks = absurd (true≢false (sym asks.0 ∙ s))

-- What clap says of a parse, as what the words ask for.
use Rattle.std.proofs.Common.{Bool, true, false, ◌||◌, ℕ, option_map, ◌≡◌, ◌≢◌, inl, inr, [], ◌∷◌, List, Option, Some, None, Result, Ok, Err, option_and_then, IfOk, IfErr, refl, sym, ap, ◌∙◌}
use Rattle.clap.specs.Words.{App, FailsBy, Kinds, Row, Text, first_of, first_value, found_of, kind_of, rows_of, subcommand_rows_of}
use Rattle.clap.proofs.WalkLemmas.{first_value-rows}
use Rattle.xl_capture.specs.Numbers.{number_of}
use Rattle.clap.specs.declared.error.Error.{Error}
use Rattle.clap.specs.declared.error.kind.ErrorKind.TheVariants.{OutOfMemory}
use Rattle.clap.specs.declared.parser.matches.ArgMatches.{ArgMatches}
use Rattle.xl_words.specs.Words.{unless_faulty, number_in, number_to, number_or, given_or, address_of, given_address}

-- neither has arguments for all subcommands
pub none_global : (a b c : Bool) → c ≡ (a || b) → a ≡ false → b ≡ false → c ≡ false
none_global a b c is left right = is ∙ (λ i. left i || right i)

-- an app whose words have to name a subcommand
abbrev pub strict : App → App
strict a = record { top = record a.top { subcommand_required = true }; subs = a.subs }

pub found_by : (kinds : Kinds) (x : Option (Text × List Row)) (r : Result ArgMatches Error) → FailsBy kinds r → IfOk r (λ m. subcommand_rows_of m ≡ x) → IfOk r (λ m. unless_faulty kinds x ≡ subcommand_rows_of m)
found_by kinds x (Ok m) fails rows = ap (λ (k : Kinds). unless_faulty k x) fails ∙ sym rows
found_by kinds x (Err e) fails rows = tt

pub refused_by : (kinds : Kinds) (x : Option (Text × List Row)) (r : Result ArgMatches Error) → FailsBy kinds r → IfErr r (λ e. kind_of e ≢ OutOfMemory → unless_faulty kinds x ≡ None)
refused_by kinds x (Ok m) fails = tt
refused_by [] x (Err e) (inl memory) = λ other. absurd (other memory)
refused_by [] x (Err e) (inr never) = absurd never
refused_by (k ∷ ks) x (Err e) fails = λ other. refl

-- ---- a word of a command, as a number

pub told_number : (words : ArgMatches) (id word : Text) → Some word ≡ first_value (found_of words) id → number_of word ≡ number_in id (rows_of (found_of words))
told_number words id word told = ap (λ (o : Option Text). option_and_then number_of o) (told ∙ first_value-rows (found_of words) id)

pub told_none : (words : ArgMatches) (id : Text) → None ≡ first_value (found_of words) id → number_in id (rows_of (found_of words)) ≡ None
told_none words id told = sym (ap (λ (o : Option Text). option_and_then number_of o) (told ∙ first_value-rows (found_of words) id))

-- ---- an option of a command

pub given_number : (words : ArgMatches) (id word : Text) (otherwise most : ℕ) → Some word ≡ first_value (found_of words) id → number_to (number_of word) most ≡ number_or id otherwise most (rows_of (found_of words))
given_number words id word otherwise most told = ap (λ (o : Option Text). given_or o otherwise most) (told ∙ first_value-rows (found_of words) id)

pub given_none : (words : ArgMatches) (id : Text) (otherwise most : ℕ) → None ≡ first_value (found_of words) id → number_or id otherwise most (rows_of (found_of words)) ≡ Some otherwise
given_none words id otherwise most told = sym (ap (λ (o : Option Text). given_or o otherwise most) (told ∙ first_value-rows (found_of words) id))

pub told_address : (words : ArgMatches) (id word : Text) → Some word ≡ first_value (found_of words) id → option_map Some (address_of word) ≡ given_address (first_of id (rows_of (found_of words)))
told_address words id word told = ap given_address (told ∙ first_value-rows (found_of words) id)

pub told_nowhere : (words : ArgMatches) (id : Text) → None ≡ first_value (found_of words) id → given_address (first_of id (rows_of (found_of words))) ≡ Some None
told_nowhere words id told = sym (ap given_address (told ∙ first_value-rows (found_of words) id))

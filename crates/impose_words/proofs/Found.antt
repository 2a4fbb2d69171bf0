-- What was found for a subcommand, and what its refusals say of the words.
use Rattle.std.proofs.Common.{◌≡◌, ap, ap₂, refl, inl, inr, subst, sym, List, [], ◌∷◌, Option, Some, None, unwrap_or, true}
use Rattle.std.specs.Prelude.{option_map}
use Rattle.std.specs.Box.{box_value}
use Rattle.clap.specs.Words.{Row, Text, found_of, rows_of, subcommand_name_of, subcommand_rows, subcommand_rows_of}
use Rattle.clap.specs.declared.parser.matches.ArgMatches.{ArgMatches}
use Rattle.clap.specs.declared.parser.matches.ArgMatches.TheViews.{out-ArgMatches, out-SubCommand}
use Rattle.rules.specs.Papers.{Paper}
use Rattle.impose_words.specs.Faults.{ParseRefuses, RefusesCommand, RefusesFound, SaysWrong, Wrong, first, wrong_among, wrong_choice}
use Rattle.impose_words.specs.Words.{ChoosesBy, Entered, Enters, ReadsRequest, file_asked, given, is_outfile}
use Rattle.impose_words.specs.declared.request.PageChoice.{PageChoice}
use Rattle.impose_words.specs.declared.request.ImposeRequest.{ImposeRequest}
use Rattle.impose_words.proofs.Values.{past}
use Rattle.impose_words.specs.declared.fault.RequestFault.{RequestFault}
use Rattle.impose_words.specs.declared.fault.RequestFault.TheVariants as fault
use Rattle.impose_words.specs.declared.fault.OptionId.TheVariants as opt

some_same : {X : Type 0} (a b : X) → Some a ≡ Some b → a ≡ b
some_same a b e = ap (λ o. unwrap_or o a) e

abbrev both : {X : Type 0} → (X → Text) → (X → List Row) → X → Text × List Row
both f g x = (f x, g x)

abbrev second : Text × List Row → List Row
second p = p.1

of_option : {X : Type 0} (f : X → Text) (g : X → List Row) (o : Option X) (name : Text) (found : List Row) → option_map f o ≡ Some name
    → option_map second (option_map (both f g) o) ≡ Some found → option_map (both f g) o ≡ Some (name, found)
of_option f g None name found e h = cc
of_option f g (Some x) name found e h = ap₂ (λ a b. Some (a, b)) (some_same (f x) name e) (some_same (g x) found h)

-- the subcommand that a parse met, by its name and by its rows
pub met : (m : ArgMatches) (name : Text) (found : List Row) → subcommand_name_of m ≡ Some name
    → option_map second (subcommand_rows (out-ArgMatches m).subcommand) ≡ Some found → subcommand_rows_of m ≡ Some (name, found)
met m name found e h =
    of_option (λ b. (out-SubCommand (box_value b)).name.now) (λ b. rows_of (found_of (out-SubCommand (box_value b)).matches))
    (out-ArgMatches m).subcommand name found e h

of_none : {X : Type 0} (f : X → Text) (g : X → List Row) (o : Option X) → None ≡ option_map f o → option_map (both f g) o ≡ None
of_none f g None e = refl
of_none f g (Some x) e = cc

-- it met none
pub unmet : (m : ArgMatches) → None ≡ subcommand_name_of m → subcommand_rows_of m ≡ None
unmet m e =
    of_none (λ b. (out-SubCommand (box_value b)).name.now) (λ b. rows_of (found_of (out-SubCommand (box_value b)).matches))
    (out-ArgMatches m).subcommand e

pub refuses_parse : (words : List Text) (f : RequestFault) → ParseRefuses words f → RefusesCommand words f
refuses_parse words (fault.Words error) h = h
refuses_parse words fault.NoMemory h = tt
refuses_parse words fault.NoText h = h
refuses_parse words fault.Lacking h = absurd h
refuses_parse words fault.OddAndEven h = absurd h
refuses_parse words (fault.BadValue option text) h = absurd h
refuses_parse words (fault.TwoProducts one other) h = absurd h

-- a fault that says nothing of what was found is none of its refusals
unsaid : (name : Text) (found : List Row) (f : RequestFault) → ((wrong : Option Wrong) → SaysWrong found f wrong → ⊥) → RefusesFound name found f → ⊥
unsaid name found f never (inl h) = never _ h
unsaid name found f never (inr h) = never _ h.3

pub refuses_words : (words : List Text) (name : Text) (found : List Row) (f : RequestFault) → Enters words name found → RefusesFound name found f → RefusesCommand words f
refuses_words words name found (fault.Words error) e h = absurd (unsaid name found (fault.Words error) (λ wrong never. never) h)
refuses_words words name found fault.NoText e h = unsaid name found fault.NoText (λ wrong never. never) h
refuses_words words name found fault.NoMemory e h = tt
refuses_words words name found fault.Lacking e h = inr (name, found, e, h)
refuses_words words name found fault.OddAndEven e h = (name, found, e, h)
refuses_words words name found (fault.BadValue option text) e h = (name, found, e, h)
refuses_words words name found (fault.TwoProducts one other) e h = (name, found, e, h)

-- ---- which is first

pub next : {a b e : Option Wrong} → a ≡ None → b ≡ e → first a b ≡ e
next is h = rw is h

pub at_once : {a : Option Wrong} (b : Option Wrong) {wrong : Wrong} → a ≡ Some wrong → first a b ≡ Some wrong
at_once b is = rw is refl

pub says_first : (found : List Row) (f : RequestFault) (a b : Option Wrong) → SaysWrong found f a → SaysWrong found f (first a b)
says_first found (fault.BadValue option text) a b h = (at_once b h.0, h.1)
says_first found fault.Lacking a b h = at_once b h
says_first found fault.OddAndEven a b h = at_once b h
says_first found (fault.TwoProducts one other) a b h = at_once b h
says_first found fault.NoMemory a b h = tt
says_first found (fault.Words error) a b h = h
says_first found fault.NoText a b h = h

pub says_next : (found : List Row) (f : RequestFault) (a b : Option Wrong) → a ≡ None → SaysWrong found f b → SaysWrong found f (first a b)
says_next found f a b is h = subst (λ o. SaysWrong found f (first o b)) (sym is) h

-- ---- nothing is wrong with what was read

pub choice_right : (id : Text) (found : List Row) (choice : PageChoice) → ChoosesBy id found choice → wrong_choice found ≡ None
choice_right id found choice k = past _ k.1 refl

pub outfile_right : (found : List Row) (outfile : Option Text) → file_asked (given opt.Outfile found) ≡ outfile → is_outfile outfile ≡ true → wrong_among (opt.Outfile ∷ []) found ≡ None
outfile_right found outfile e is = rw (e, is) refl

-- ---- the paper at home

-- it is no matter of the words
reads_at_home : (name : Text) (found : List Row) (r : ImposeRequest) (home : Paper) → ReadsRequest name found r → ReadsRequest name found (record r { default_paper = home })
reads_at_home name found r home h = record {
  layout = h.layout;
  skipped = h.skipped;
  spacing = h.spacing;
  choice = h.choice;
  last_at_back = h.last_at_back;
  page_paper = h.page_paper;
  sheet_paper = h.sheet_paper;
  border = h.border;
  turn = h.turn;
  marks = h.marks;
  guarded = h.guarded;
  product = h.product;
  quiet = h.quiet;
  infile = h.infile;
  outfile = h.outfile;
  no_option = h.no_option;
  replaces = h.replaces;
}

pub entered_at_home : (words : List Text) (r given : ImposeRequest) (home : Paper) → given ≡ record r { default_paper = home } → Entered words (λ name found. ReadsRequest name found r)
    → Entered words (λ name found. ReadsRequest name found given)
entered_at_home words r given home e h =
    subst (λ q. Entered words (λ name found. ReadsRequest name found q)) (sym e) (h.0, h.1, h.2, reads_at_home h.0 h.1 r home h.3)

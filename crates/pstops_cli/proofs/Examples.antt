-- Command lines whose words are written out, with what comes of them.
use Rattle.std.proofs.Common.{◌≡◌, ℕ, refl, [], ◌∷◌, List, Option, Some, None, Err}
use Rattle.std.specs.Prelude.{codes}
use Rattle.clap.specs.Words.{fault_of, first_of, matches_of}
use Rattle.clap.specs.declared.error.kind.ErrorKind.TheVariants.{ArgumentConflict, InvalidValue, MissingRequiredArgument, UnknownArgument, ValueValidation}
use Rattle.lengths.specs.Reading.{number_at}
use Rattle.rules.specs.Papers.{points}
use Rattle.clap.proofs.OnLiterals.{clap_on_literals}
use Rattle.pstops_cli.specs.Command.{TakesWords, options_found, pstops, sides_found, workers_found}
use Rattle.pstops_cli.specs.Values.{letter_d, letter_h, letter_w, options_named, paper_or_a4}
use Rattle.pstops_cli.specs.declared.command.CommandFault.TheVariants.{BadLength, UnknownPaper}

pub no_words : fault_of pstops [] ≡ MissingRequiredArgument ∷ []
unfolding clap_on_literals pstops
no_words = refl

pub specification_alone : TakesWords (codes "0" ∷ [])
unfolding clap_on_literals pstops
specification_alone = refl

pub quiet_specification : first_of (codes "specs") (matches_of pstops (codes "-q" ∷ codes "0" ∷ [])) ≡ Some (codes "0")
unfolding clap_on_literals pstops
quiet_specification = refl

pub quiet_flag : first_of (codes "quiet") (matches_of pstops (codes "0" ∷ codes "-q" ∷ [])) ≡ Some (codes "true")
unfolding clap_on_literals pstops
quiet_flag = refl

pub quiet_twice : fault_of pstops (codes "-q" ∷ codes "-q" ∷ codes "0" ∷ []) ≡ ArgumentConflict ∷ []
unfolding clap_on_literals pstops
quiet_twice = refl

pub input_and_output : first_of (codes "outfile") (matches_of pstops (codes "0" ∷ codes "in.ps" ∷ codes "out.ps" ∷ [])) ≡ Some (codes "out.ps")
unfolding clap_on_literals pstops
input_and_output = refl

pub one_word_more : fault_of pstops (codes "0" ∷ codes "in.ps" ∷ codes "out.ps" ∷ codes "more" ∷ []) ≡ UnknownArgument ∷ []
unfolding clap_on_literals pstops
one_word_more = refl

pub minus_as_next_word : fault_of pstops (codes "-w" ∷ codes "-5" ∷ codes "0" ∷ []) ≡ UnknownArgument ∷ []
unfolding clap_on_literals pstops
minus_as_next_word = refl

pub option_as_next_word : fault_of pstops (codes "-w" ∷ codes "-q" ∷ codes "0" ∷ []) ≡ InvalidValue ∷ []
unfolding clap_on_literals pstops
option_as_next_word = refl

pub paper_in_one_word : first_of (codes "paper") (matches_of pstops (codes "-qpa5" ∷ codes "0" ∷ [])) ≡ Some (codes "a5")
unfolding clap_on_literals pstops
paper_in_one_word = refl

pub no_such_paper : options_found (matches_of pstops (codes "-p" ∷ codes "b9" ∷ codes "0" ∷ [])) ≡ Err UnknownPaper
unfolding clap_on_literals pstops options_named
no_such_paper = refl

pub no_width : options_found (matches_of pstops (codes "-w0" ∷ codes "0" ∷ [])) ≡ Err (BadLength letter_w)
unfolding clap_on_literals pstops options_named number_at
no_width = refl

pub unknown_letter : fault_of pstops (codes "-x" ∷ codes "0" ∷ []) ≡ UnknownArgument ∷ []
unfolding clap_on_literals pstops
unknown_letter = refl

-- a specification that begins with a minus is read as a letter, but for one after two dashes
pub minus_specification : fault_of pstops (codes "-0" ∷ []) ≡ UnknownArgument ∷ []
unfolding clap_on_literals pstops
minus_specification = refl

pub after_two_dashes : first_of (codes "specs") (matches_of pstops (codes "--" ∷ codes "-0" ∷ [])) ≡ Some (codes "-0")
unfolding clap_on_literals pstops
after_two_dashes = refl

pub no_help : fault_of pstops (codes "--help" ∷ []) ≡ UnknownArgument ∷ []
unfolding clap_on_literals pstops
no_help = refl

-- ---- the numbers of workers

pub two_of_each : workers_found (matches_of pstops (codes "0" ∷ [])) ≡ record { preparers = 2; imposers = 2 }
unfolding clap_on_literals pstops
two_of_each = refl

pub sixteen_and_one : workers_found (matches_of pstops (codes "-j16" ∷ codes "-k" ∷ codes "1" ∷ codes "0" ∷ [])) ≡ record { preparers = 16; imposers = 1 }
unfolding clap_on_literals pstops
sixteen_and_one = refl

pub sixteen_taken : TakesWords (codes "-j16" ∷ codes "-k" ∷ codes "1" ∷ codes "0" ∷ [])
unfolding clap_on_literals pstops
sixteen_taken = refl

pub seventeen : fault_of pstops (codes "-j" ∷ codes "17" ∷ codes "0" ∷ []) ≡ ValueValidation ∷ []
unfolding clap_on_literals pstops
seventeen = refl

pub no_preparers : fault_of pstops (codes "-j" ∷ codes "0" ∷ codes "0" ∷ []) ≡ ValueValidation ∷ []
unfolding clap_on_literals pstops
no_preparers = refl

pub no_number : fault_of pstops (codes "-k" ∷ codes "x" ∷ codes "0" ∷ []) ≡ ValueValidation ∷ []
unfolding clap_on_literals pstops
no_number = refl

pub workers_twice : fault_of pstops (codes "-j1" ∷ codes "-j2" ∷ codes "0" ∷ []) ≡ ArgumentConflict ∷ []
unfolding clap_on_literals pstops
workers_twice = refl

pub plus_before : workers_found (matches_of pstops (codes "-j" ∷ codes "+3" ∷ codes "0" ∷ [])) ≡ record { preparers = 3; imposers = 2 }
unfolding clap_on_literals pstops
plus_before = refl

pub plus_taken : TakesWords (codes "-j" ∷ codes "+3" ∷ codes "0" ∷ [])
unfolding clap_on_literals pstops
plus_taken = refl

pub zero_before : workers_found (matches_of pstops (codes "-j" ∷ codes "03" ∷ codes "0" ∷ [])) ≡ record { preparers = 3; imposers = 2 }
unfolding clap_on_literals pstops
zero_before = refl

-- ---- the number of sides

pub no_sides : sides_found (matches_of pstops (codes "0" ∷ [])) ≡ None
unfolding clap_on_literals pstops
no_sides = refl

pub eight_sides : sides_found (matches_of pstops (codes "-s" ∷ codes "8" ∷ codes "0" ∷ [])) ≡ Some 8
unfolding clap_on_literals pstops
eight_sides = refl

-- a run refuses what is no multiple of four
pub six_sides : sides_found (matches_of pstops (codes "-s6" ∷ codes "0" ∷ [])) ≡ Some 6
unfolding clap_on_literals pstops
six_sides = refl

pub six_taken : TakesWords (codes "-s6" ∷ codes "0" ∷ [])
unfolding clap_on_literals pstops
six_taken = refl

pub million_taken : TakesWords (codes "-s" ∷ codes "1000000" ∷ codes "0" ∷ [])
unfolding clap_on_literals pstops
million_taken = refl

pub zero_sides : fault_of pstops (codes "-s" ∷ codes "0" ∷ codes "0" ∷ []) ≡ ValueValidation ∷ []
unfolding clap_on_literals pstops
zero_sides = refl

pub three_sides : fault_of pstops (codes "-s" ∷ codes "3" ∷ codes "0" ∷ []) ≡ ValueValidation ∷ []
unfolding clap_on_literals pstops
three_sides = refl

pub million_and_one : fault_of pstops (codes "-s" ∷ codes "1000001" ∷ codes "0" ∷ []) ≡ ValueValidation ∷ []
unfolding clap_on_literals pstops
million_and_one = refl

-- ---- the values of options

pub a4_if_none_is_named : paper_or_a4 None ≡ Some (points 595 842)
a4_if_none_is_named = refl

abbrev bad : Option (List ℕ)
bad = Some (codes "x")

-- of several faults the first of -p, -w, -h and -d is reported
pub paper_first : options_named bad bad bad bad None (record { preparers = 2; imposers = 2 }) ≡ Err UnknownPaper
unfolding options_named number_at
paper_first = refl

pub width_second : options_named None bad bad bad None (record { preparers = 2; imposers = 2 }) ≡ Err (BadLength letter_w)
unfolding options_named number_at
width_second = refl

pub height_third : options_named None None bad bad None (record { preparers = 2; imposers = 2 }) ≡ Err (BadLength letter_h)
unfolding options_named number_at
height_third = refl

pub border_last : options_named None None None bad None (record { preparers = 2; imposers = 2 }) ≡ Err (BadLength letter_d)
unfolding options_named number_at
border_last = refl

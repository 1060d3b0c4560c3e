-- The rules and their numbers.
use Rattle.std.specs.Prelude.{ℕ}
use Rattle.rules.specs.declared.rule.Rule.{Rule}
use Rattle.rules.specs.declared.rule.Rule.TheVariants.{PropagateWithoutVersion, VersionActionWithoutVersion, LongFlagDash, ConflictsWithItself, TooManyValues, IndexWithFlag, IndexZero, IndexWithoutValue, PositionalWithoutIndex, RangeUnset, EqualsWithMany, SettingWithoutValue, MulticallArgument, LongNameDash, SameId, SameLongName, SameLetter, SameIndex, RequiresItself, RequiredConditionally, MissingReference, LastWithLong, LastWithLetter, RequiredGlobal, SameGroupId, GroupIdOfArgument, MissingMember, MissingGroupRequirement, MissingGroupConflict, SameLongFlag, SameLetterFlag, SubcommandNameTaken, SubcommandAliasTaken, PositionsWithGaps, TrailingLast, TrailingNotMultiple, TrailingElsewhere, OpenBeforeOptional, MultipleElsewhere, TooManyMultiple, OptionalBeforeRequired, TwoLast, RequiredLastWithSubcommands, MulticallWithoutBinaryName, FormCut}

-- the number of a rule
abbrev pub rule_number : Rule → ℕ
rule_number PropagateWithoutVersion = 1
rule_number VersionActionWithoutVersion = 2
rule_number LongFlagDash = 3
rule_number ConflictsWithItself = 4
rule_number TooManyValues = 5
rule_number IndexWithFlag = 9
rule_number IndexZero = 10
rule_number IndexWithoutValue = 11
rule_number PositionalWithoutIndex = 12
rule_number RangeUnset = 13
rule_number EqualsWithMany = 15
rule_number SettingWithoutValue = 16
rule_number MulticallArgument = 17
rule_number LongNameDash = 18
rule_number SameId = 19
rule_number SameLongName = 20
rule_number SameLetter = 21
rule_number SameIndex = 22
rule_number RequiresItself = 23
rule_number RequiredConditionally = 24
rule_number MissingReference = 25
rule_number LastWithLong = 26
rule_number LastWithLetter = 27
rule_number RequiredGlobal = 28
rule_number SameGroupId = 31
rule_number GroupIdOfArgument = 32
rule_number MissingMember = 33
rule_number MissingGroupRequirement = 34
rule_number MissingGroupConflict = 35
rule_number SameLongFlag = 36
rule_number SameLetterFlag = 37
rule_number SubcommandNameTaken = 38
rule_number SubcommandAliasTaken = 39
rule_number PositionsWithGaps = 40
rule_number TrailingLast = 41
rule_number TrailingNotMultiple = 42
rule_number TrailingElsewhere = 43
rule_number OpenBeforeOptional = 44
rule_number MultipleElsewhere = 45
rule_number TooManyMultiple = 46
rule_number OptionalBeforeRequired = 47
rule_number TwoLast = 48
rule_number RequiredLastWithSubcommands = 49
rule_number MulticallWithoutBinaryName = 50
rule_number FormCut = 51

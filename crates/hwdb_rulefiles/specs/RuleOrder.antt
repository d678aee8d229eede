-- The order of the tokens of a line, after `UdevRuleTokenType` and `sort_tokens` of udev-rules.c (systemd 257).
use Rattle.std.specs.Prelude.{List, [], ◌++◌, Bool, ℕ, zero, suc, ◌==◌, ◌+◌, filter, not}
use Rattle.hwdb_rulefiles.specs.RuleTokens.{Token}
use Rattle.hwdb_rulefiles.specs.declared.tokens.TokenKind.{TokenKind}
use Rattle.hwdb_rulefiles.specs.declared.tokens.TokenKind.TheVariants as Kinds

-- the place of a type among all
abbrev pub rank : TokenKind → ℕ
rank Kinds.MatchAction = 0
rank Kinds.MatchDevpath = 1
rank Kinds.MatchKernel = 2
rank Kinds.MatchDevlink = 3
rank Kinds.MatchName = 4
rank Kinds.MatchEnv = 5
rank Kinds.MatchConst = 6
rank Kinds.MatchTag = 7
rank Kinds.MatchSubsystem = 8
rank Kinds.MatchDriver = 9
rank Kinds.MatchAttr = 10
rank Kinds.MatchSysctl = 11
rank Kinds.ParentsKernel = 12
rank Kinds.ParentsSubsystem = 13
rank Kinds.ParentsDriver = 14
rank Kinds.ParentsAttr = 15
rank Kinds.ParentsTag = 16
rank Kinds.MatchTest = 17
rank Kinds.MatchProgram = 18
rank Kinds.ImportFile = 19
rank Kinds.ImportProgram = 20
rank Kinds.ImportBuiltin = 21
rank Kinds.ImportDb = 22
rank Kinds.ImportCmdline = 23
rank Kinds.ImportParent = 24
rank Kinds.MatchResult = 25
rank Kinds.EscapeNone = 26
rank Kinds.EscapeReplace = 27
rank Kinds.DbPersist = 28
rank Kinds.Watch = 29
rank Kinds.LinkPriority = 30
rank Kinds.LogLevel = 31
rank Kinds.Owner = 32
rank Kinds.Group = 33
rank Kinds.Mode = 34
rank Kinds.Tag = 35
rank Kinds.StaticNode = 36
rank Kinds.Seclabel = 37
rank Kinds.Env = 38
rank Kinds.Name = 39
rank Kinds.Devlink = 40
rank Kinds.Attr = 41
rank Kinds.Sysctl = 42
rank Kinds.RunBuiltin = 43
rank Kinds.RunProgram = 44

abbrev pub has_rank : ℕ → Token → Bool
has_rank n t = rank t.kind == n

abbrev pub lacks_rank : ℕ → Token → Bool
lacks_rank n t = not (has_rank n t)

-- the tokens of `most` ranks from `from` on, rank by rank
unfoldable pub by_rank : (most from : ℕ) → List Token → List Token
by_rank zero from ts = []
by_rank (suc most) from ts = filter (has_rank from) ts ++ by_rank most (from + 1) ts

-- the tokens by their types; those of one type as they are written
abbrev pub in_order : List Token → List Token
in_order ts = by_rank 45 0 ts

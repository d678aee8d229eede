pub mod RuleNames
pub mod RuleSights
pub mod DeviceCommands
pub mod RuleReasons
pub mod RuleWhys
pub mod RuleStrings
pub mod RuleAnswers
pub mod Rows

mod TableFacts
pub mod Judged
pub mod KeysJudged
pub mod PartsJudged

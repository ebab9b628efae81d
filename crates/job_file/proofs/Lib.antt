mod Documents
mod NameFacts
mod ResolveFacts
mod PartsJudged
mod JobJudged

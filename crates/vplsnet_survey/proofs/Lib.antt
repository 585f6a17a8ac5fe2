mod AnswerLemmas
mod BaseLemmas
mod CountLemmas
mod EndLemmas
mod LawLemmas
mod ShapeLemmas

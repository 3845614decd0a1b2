pub mod Reaching
pub mod Showing
mod AllPages
mod AnswerKinds
mod Answering
mod Asking
mod Lasting
mod LinesRead
mod LinesServed
mod ListedRows
mod Pages
mod PagesListed

pub mod PutWords
